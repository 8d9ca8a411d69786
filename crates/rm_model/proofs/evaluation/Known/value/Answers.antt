use Rattle.std.proofs.Common.{sym, ◌∙◌, true≢false}
use Rattle.rm_model.proofs.NameLemmas.{place-found, place-absent, value-at}
use Rattle.rm_model.proofs.evaluation.Known.value.Goals as goal

pub returns-in-Some : goal.returns-in-Some
returns-in-Some c = λ v e. value-at v c.args.self.now.names c.args.self.now.values.items c.in-Some.place c.args.name.now c.index.result.now e (place-found c.args.self.now.names c.args.name.now c.in-Some.place (sym c.place.ensures.place ∙ c.in-Some.is)) c.index.ensures

pub returns-in-None : goal.returns-in-None
returns-in-None c = λ v e. absurd (true≢false (sym c.requires.known ∙ place-absent c.args.self.now.names c.args.name.now (sym c.place.ensures.place ∙ c.in-None.is)))
