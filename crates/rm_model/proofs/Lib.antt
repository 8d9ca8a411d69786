mod CoverLemmas
mod DriverLemmas
mod EvaluationLemmas
mod FormLemmas
mod HashedLemmas
mod LookLemmas
mod ModelLemmas
mod NameLemmas
mod NumberLemmas
mod NumberingLemmas
mod PlaceLemmas
mod PlacedLemmas
mod RankLaws
mod RankedLaws
mod RankingLemmas
mod SearchLemmas
mod ValuationLaws
pub mod Public
