-- Why a run over a model ends early, by what kept it.
use Rattle.rm_base.specs.declared.outside.OutsideFault.{OutsideFault}
use Rattle.rm_base.specs.declared.outside.OutsideFault.TheVariants as outside
use Rattle.cover_decompose.specs.declared.model_graph.DecomposeRefusal.{DecomposeRefusal}
use Rattle.cover_decompose.specs.declared.model_graph.DecomposeRefusal.TheVariants as refusal
use Rattle.journal_text.specs.declared.append.Stop.{Stop}
use Rattle.journal_text.specs.declared.append.Stop.TheVariants as stop
use Rattle.optimisation.specs.declared.run_error.RunError.{RunError}
use Rattle.optimisation.specs.declared.run_error.RunError.TheVariants.{Limit, Failed, NoMemory}

abbrev pub run_error_of_refusal : DecomposeRefusal → RunError
run_error_of_refusal (refusal.Limit pins) = Limit pins
run_error_of_refusal refusal.NoMemory = NoMemory

abbrev pub run_error_of_stop : Stop → RunError
run_error_of_stop stop.Failed = Failed
run_error_of_stop stop.NoMemory = NoMemory

abbrev pub run_error_of_fault : OutsideFault → RunError
run_error_of_fault outside.Failed = Failed
run_error_of_fault outside.NoMemory = NoMemory
