-- What the justifications of one gate teach, and what stays under more facts.
use Rattle.std.proofs.Common.{not}
use Rattle.recursive_learning.specs.Gates.{ClashesAreLearned, ClashesStay, OppositesClash, ValuesAreLearned}
use Rattle.refutation.proofs.Public.{both_good, learned_in, one_may_in, with_within}
use Rattle.refutation.specs.declared.reasoning.Fact.TheVariants.{Good}

pub clashes_are_learned : ClashesAreLearned
clashes_are_learned net fault depth held y c unjustified few all s within free closed =
    one_may_in net fault depth held s within free closed y c unjustified few all

pub values_are_learned : ValuesAreLearned
values_are_learned net fault depth held y c unjustified few x b all s within free closed =
    with_within held s x (Good b) within (learned_in net fault depth held s within free closed y c unjustified few x b (λ d just some. all d just))

pub clashes_stay : ClashesStay
clashes_stay net fault depth held more within clashes s contains = clashes s (λ x fact e. contains x fact (within x fact e))

pub opposites_clash : OppositesClash
opposites_clash net fault depth held y c x b all d just more within isn't s contains free closed =
    free x (both_good s x b (all d just s (λ z fact e. contains z fact (within z fact e)) free closed) (contains x (Good (not b)) isn't))
