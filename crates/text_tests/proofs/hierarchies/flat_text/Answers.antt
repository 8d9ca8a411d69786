use Rattle.text_tests.proofs.hierarchies.flat_text.Goals as goal

pub write_model-requires : goal.write_model-requires
write_model-requires c = c.in-Ok.ensures.flat.formed.inits
