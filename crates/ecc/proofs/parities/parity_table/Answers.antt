-- `parity_table` meets its contract: every entry has the parities of its byte, by one test over the whole table that is computed.
use mathlib.Core.Bool.{Bool}
use mathlib.Core.List.{List}
use Prim.Native.Nat.{ℕ}
use lib.Count.{ones_in}
use lib.Dec.{T, eqb, eqb→eq}
use lib.ListN.{get_or}
use Rattle.ecc.specs.Code.{parity, column_parities}
use Rattle.ecc.specs.Parities.{parity_entry, HoldsParities}
use Rattle.ecc.proofs.Tests.{all_below, all-at}
use Rattle.ecc.proofs.parities.parity_table.Goals as goal

right : List ℕ → ℕ → Bool
right table byte = eqb (get_or table byte 0) (parity_entry byte)

holds : {table : List ℕ} → T (all_below 256 (right table)) → HoldsParities table
unfolding right
holds {table} t = record { entries = λ byte h. eqb→eq _ _ (all-at 256 (right table) t byte h) }

pub returns : goal.returns
unfolding right column_parities parity ones_in
returns c = holds tt
