-- Areas of MSRs are read back.
use Rattle.std.proofs.Common.{◌≡◌, ℕ, ◌+◌, ◌*◌, ◌%◌, ◌^◌, List, [], ◌∷◌, ◌++◌, length, take, drop, refl, sym, ap, ◌∙◌, arith, length-append}
use Rattle.std.proofs.lemmas.List.{drop_at, drop-drop}
use Rattle.machine_layout.specs.Exits.{AreaEntry, entry_size, entry_bytes, area_bytes, area_index, area_value}
use Rattle.machine_layout.specs.Memory.{le_number}
use Rattle.machine_layout.specs.Laws.{AreasAreReadBack}
use Rattle.machine_layout.proofs.StoreLaws.{le_number-le_bytes}

pub length-entry : (e : AreaEntry) → length (entry_bytes e) ≡ entry_size
unfolding entry_bytes
length-entry e = refl

pub length-area : (es : List AreaEntry) → length (area_bytes es) ≡ entry_size * length es
length-area [] = refl
length-area (e ∷ es) = length-append (entry_bytes e) (area_bytes es) ∙ omega (arith, length-entry e, length-area es)

-- what stands behind some entries
behind : (es : List AreaEntry) (more : List ℕ) → drop (entry_size * length es) (area_bytes es ++ more) ≡ more
behind es more = drop_at (area_bytes es) more (entry_size * length es) (length-area es)

index_back : (e : AreaEntry) (after : List ℕ) → le_number (take 4 (entry_bytes e ++ after)) ≡ e.index % 2 ^ 32
unfolding entry_bytes
index_back e after = le_number-le_bytes 4 e.index

value_back : (e : AreaEntry) (after : List ℕ) → le_number (take 8 (drop 8 (entry_bytes e ++ after))) ≡ e.value % 2 ^ 64
unfolding entry_bytes
value_back e after = le_number-le_bytes 8 e.value

pub areas_are_read_back : AreasAreReadBack
unfolding area_index area_value
areas_are_read_back before e after = record {
  index = ap (λ (x : List ℕ). le_number (take 4 x)) (behind before (entry_bytes e ++ after)) ∙ index_back e after;
  value =
      ap (λ (x : List ℕ). le_number (take 8 x)) (sym (drop-drop 8 (entry_size * length before) (area_bytes before ++ (entry_bytes e ++ after))) ∙ ap (drop 8) (behind before (entry_bytes e ++ after)))
      ∙ value_back e after;
}
