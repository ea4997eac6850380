-- The limit of tables, the numbers of `load` and the forms of commands, against answers that were worked out by hand.
use Rattle.std.proofs.Common.{◌≡◌, [], ◌∷◌, Some, None, refl}
use Rattle.std.specs.Prelude.{codes}
use Rattle.muen_top.specs.Commands.{build, command_of, for_load, run, verify}
use Rattle.muen_top.specs.declared.limits.TheConstants.{DMA_MOST}

tables_of_64_mib : DMA_MOST ≡ 67108864
tables_of_64_mib = refl

-- ---- 16 bits

last_number : for_load 65535 ≡ Some 65535
last_number = refl

no_number : for_load 65536 ≡ None
no_number = refl

-- ---- forms of commands

a_run_with_tables : command_of (codes "run" ∷ codes "i" ∷ codes "r" ∷ codes "d" ∷ []) ≡ Some (run (codes "i") (codes "r") (Some (codes "d")))
a_run_with_tables = refl

image_and_policy : command_of (codes "verify" ∷ codes "i" ∷ codes "p" ∷ []) ≡ Some (verify (codes "i") (codes "p"))
image_and_policy = refl

-- the image and the tables are two files
one_file_for_both : command_of (codes "build" ∷ codes "p" ∷ codes "i" ∷ codes "i" ∷ []) ≡ None
one_file_for_both = refl

no_verify_with_tables : command_of (codes "verify" ∷ codes "i" ∷ codes "p" ∷ codes "d" ∷ []) ≡ None
no_verify_with_tables = refl
