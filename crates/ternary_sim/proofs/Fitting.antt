-- A new simulator fits its graph.
use Rattle.std.proofs.Common.{Err, List, Ok, Result, replicate, ℕ, ◌≡◌}
use Rattle.std.proofs.lemmas.List.{length-replicate}
use Rattle.std.specs.Prelude.{IfOk}
use Rattle.gate_graph.specs.Order.{IsOrder}
use Rattle.gate_net.specs.Net.{Net, source_count}
use Rattle.rm_base.specs.declared.vectors.Value3.TheVariants.{Unknown}
use Rattle.ternary_sim.specs.Sims.{Fits, SimState}

pub fits_new : {E : Type 0} (net : Net) (n : ℕ) (xs : List ℕ) (r : Result SimState E) → IfOk r (λ s. s.sources ≡ replicate n Unknown) → IfOk r (λ s. s.order ≡ xs) → n ≡ source_count net → IsOrder net xs → IfOk r (λ s. Fits s net)
fits_new net n xs (Ok s) known listed count order = record { sources = rw (known, count) (length-replicate (source_count net) Unknown); order = rw listed order }
fits_new net n xs (Err e) known listed count order = tt
