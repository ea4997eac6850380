-- How a name is kept.
use Rattle.std.proofs.Common.{◌≡◌, ℕ, ◌≤◌, ◌-◌, true, List, length, take, arith, sym, ap, ◌∙◌, length-append}
use Rattle.std.specs.Prelude.{replicate, Option, Some}
use Rattle.std.proofs.lemmas.List.{length-replicate}
use Rattle.std.proofs.Math.Seq.{take-append_seam}
use Rattle.muen_num.specs.Naming.{is_name, name_of, name_room}
use Rattle.muen_num.specs.NameStored.{IsStored}

pub take-name_room : (text : List ℕ) → take (length text) (name_room text) ≡ text
unfolding name_room
take-name_room text = take-append_seam text (replicate (63 - length text) 0)

length-name_room : (text : List ℕ) → length text ≤ 63 → length (name_room text) ≡ 63
unfolding name_room
length-name_room text h =
    omega (arith, length-append text (replicate (63 - length text) 0), length-replicate {A = ℕ} (63 - length text) 0)

-- a name with zeros behind it is kept as it should be
pub stored : (text : List ℕ) → length text ≤ 63 → is_name text ≡ true → (bytes : List ℕ) → bytes ≡ name_room text → IsStored (record { len = length text; bytes = bytes })
stored text h name bytes is =
    let front : take (length text) bytes ≡ text = ap (take (length text)) is ∙ take-name_room text in
    record {
      room = ap length is ∙ length-name_room text h;
      within = h;
      zeros = ap name_room front ∙ sym is;
      name = ap is_name front ∙ name;
    }

pub back : (text bytes : List ℕ) → bytes ≡ name_room text → is_name text ≡ true → ◌≡◌ {A = Option (List ℕ)} (Some (take (length text) bytes)) (name_of text)
back text bytes is name =
    let e : take (length text) bytes ≡ text = ap (take (length text)) is ∙ take-name_room text in
    rw name (ap (λ x. Some x) e)
