-- The calls of an object in memory: they are numbered from 1, and those with a listed number fail.
use Rattle.std.specs.Prelude.{ℕ, Bool, ◌+◌, ◌-◌, ◌^◌, ◌==◌, min, List, if◌then◌else◌, refl}
use Rattle.std.specs.Coded.{Coded, code_by, coded×, coded_list, coded_ℕ}
use Rattle.std.specs.List.{list_any}

pub record CallLog : Type 0 where
  -- how many calls were made
  pub made : ℕ
  -- how many calls failed
  pub failed : ℕ
  -- the numbers of the calls that fail
  pub listed : List ℕ

-- by which a proof tells logs apart
abbrev pub log_code : Coded CallLog
log_code = code_by (ℕ × (ℕ × List ℕ)) (coded× coded_ℕ (coded× coded_ℕ (coded_list coded_ℕ)))
    (λ log. (log.made, (log.failed, log.listed))) (λ p. record { made = p.0; failed = p.1.0; listed = p.1.1 }) (λ _. refl)

-- one more, or the last number of 64 bits again
abbrev pub one_more : ℕ → ℕ
one_more n = min (n + 1) (2 ^ 64 - 1)

-- no call yet
abbrev pub no_calls : List ℕ → CallLog
no_calls listed = record { made = 0; failed = 0; listed = listed }

-- whether the number of the next call is listed
abbrev pub fails_next : CallLog → Bool
fails_next log = list_any (λ n. n == one_more log.made) log.listed

-- the log with the next call
abbrev pub after_call : CallLog → CallLog
after_call log = record {
  made = one_more log.made;
  failed = (if fails_next log then one_more log.failed else log.failed);
  listed = log.listed;
}
