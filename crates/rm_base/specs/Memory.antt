-- What a shelf and a sink in memory hold.
use Rattle.std.specs.Prelude.{ℕ, ◌/◌, List, length, take, refl}
use Rattle.std.specs.Coded.{Coded, code_by, coded×, coded_list, coded_ℕ}
use Rattle.rm_base.specs.CallLog.{CallLog, log_code}
use Rattle.rm_base.specs.Files.{Files, files_code}

pub record ShelfInMemory : Type 0 where
  pub files : Files
  pub log : CallLog

abbrev pub shelf_code : Coded ShelfInMemory
shelf_code = code_by (Files × CallLog) (coded× files_code log_code) (λ s. (s.files, s.log)) (λ p. record { files = p.0; log = p.1 }) (λ _. refl)

pub record SinkInMemory : Type 0 where
  pub written : List ℕ
  pub log : CallLog

abbrev pub sink_code : Coded SinkInMemory
sink_code = code_by (List ℕ × CallLog) (coded× (coded_list coded_ℕ) log_code) (λ s. (s.written, s.log)) (λ p. record { written = p.0; log = p.1 }) (λ _. refl)

-- the first half of the bytes, rounded down
abbrev pub first_half : List ℕ → List ℕ
first_half bytes = take (length bytes / 2) bytes
