use Rattle.std.proofs.Common.{◌≡◌, ◌<◌, ◌^◌, ◌∙◌, None, IfOk, ℕ, arith, length, subst, sym}
use Rattle.std.proofs.lemmas.Result.{IfOk-weaker}
use Rattle.cover_decompose.specs.Count.{decomposed}
use Rattle.demo_generator.specs.Ready.{IsReady}
use Rattle.demo_generator.specs.Generator.{model_of_seed}
use Rattle.rm_model.specs.Ranks.{first_without_rank}
use Rattle.rm_model.specs.Value.{observed_names, source_names}
use Rattle.rm_model.specs.WellFormed.{IsWellFormed}
use Rattle.rm_model.specs.declared.parts.Model.{Model}
use Rattle.demo_generator.proofs.model.demo_model.Goals as goal

along : (seed : ℕ) (m : Model) → IsReady (model_of_seed seed) → m ≡ model_of_seed seed → IsReady m
along seed m ready e = subst IsReady (sym e) ready

pub rank_model-requires-clause-formed : goal.rank_model-requires-clause-formed
rank_model-requires-clause-formed c = (along c.args.seed c.in_ok-model.model (c.demo_models_are_ready.ensures c.args.seed) c.in_ok-model.ensures).formed

pub rank_model-requires-clause-ranked : goal.rank_model-requires-clause-ranked
rank_model-requires-clause-ranked c = (along c.args.seed c.in_ok-model.model (c.demo_models_are_ready.ensures c.args.seed) c.in_ok-model.ensures).ranked

pub rank_model-requires-clause-room : goal.rank_model-requires-clause-room
rank_model-requires-clause-room c =
    let ready = along c.args.seed c.in_ok-model.model (c.demo_models_are_ready.ensures c.args.seed) c.in_ok-model.ensures in
    omega (arith, ready.sources, ready.covers)

pub returns : goal.returns
returns c =
    let ready = c.demo_models_are_ready.ensures c.args.seed in
    let drawn : IfOk c.rank_model.result (λ m. m ≡ model_of_seed c.args.seed) = IfOk-weaker c.rank_model.result (λ (m : Model). m ≡ c.in_ok-model.model) (λ (m : Model). m ≡ model_of_seed c.args.seed) (λ m e. e ∙ c.in_ok-model.ensures) c.rank_model.ensures in
    record {
      model = drawn;
      formed = IfOk-weaker c.rank_model.result _ IsWellFormed (λ m e. (along c.args.seed m ready e).formed) drawn;
      ranked = IfOk-weaker c.rank_model.result _ (λ m. first_without_rank m ≡ None) (λ m e. (along c.args.seed m ready e).ranked) drawn;
      covers = IfOk-weaker c.rank_model.result _ (λ (m : Model). length m.covers < 2 ^ 32) (λ m e. let count = (along c.args.seed m ready e).covers in omega (arith, count)) drawn;
      sources = IfOk-weaker c.rank_model.result _ (λ m. length (source_names m) ≡ 16) (λ m e. (along c.args.seed m ready e).sources) drawn;
      observed = IfOk-weaker c.rank_model.result _ (λ m. length (observed_names m) ≡ 8) (λ m e. (along c.args.seed m ready e).observed) drawn;
      fits = IfOk-weaker c.rank_model.result _ (λ m. decomposed m < 65536) (λ m e. (along c.args.seed m ready e).fits) drawn;
    }
