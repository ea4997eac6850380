-- An area of MSRs, entry by entry, and bytes, one by one.
use Rattle.std.proofs.Common.{◌≡◌, ℕ, suc, ◌+◌, ◌*◌, ◌<◌, List, [], ◌∷◌, ◌++◌, length, map, drop, get_or, Option, Some, None, refl, sym, ap, ◌∙◌, arith, add-one}
use Rattle.std.proofs.Math.Seq.{drop-cons}
use Rattle.std.proofs.lemmas.List.{map-append}
use Rattle.muen_num.proofs.NumbersBelow.{one_more}
use Rattle.muen_num.specs.Range.{numbers_below}
use Rattle.machine_layout.specs.Exits.{AreaEntry, area_index, area_value}
use Rattle.machine_layout.specs.Memory.{Page, store_of}
use Rattle.machine_layout.specs.PageFields.{number_at}
use Rattle.vmx_machine.specs.Machine.{page_bytes_at, entries_in, msrs_loaded, save_value, entry_saved, saved, written}
use Rattle.vmx_machine.specs.MsrFile.{value_in, with_msr}

index_is : (area : List ℕ) (i : ℕ) → area_index area i ≡ number_at area (16 * i) 4
unfolding area_index number_at
index_is area i = refl

value_is : (area : List ℕ) (i : ℕ) → area_value area i ≡ number_at area (16 * i + 8) 8
unfolding area_value number_at
value_is area i = refl

-- ---- saving

module _ (file : List ℕ) (area : ℕ) where
  saved_by : (i index : ℕ) (o : Option ℕ) (pages : List Page) → index ≡ number_at (page_bytes_at pages area) (16 * i) 4 → o ≡ value_in file index → save_value o (4096 * area + (16 * i + 8)) pages ≡ entry_saved file area i pages
  saved_by i index o pages e h =
      ap (λ v. save_value v (4096 * area + (16 * i + 8)) pages) (h ∙ ap (value_in file) (e ∙ sym (index_is (page_bytes_at pages area) i)))

  pub entry_passed : (i index : ℕ) (pages : List Page) → index ≡ number_at (page_bytes_at pages area) (16 * i) 4 → None ≡ value_in file index → pages ≡ entry_saved file area i pages
  entry_passed i index pages e h = saved_by i index None pages e h

  pub entry_put : (i index value : ℕ) (pages : List Page) → index ≡ number_at (page_bytes_at pages area) (16 * i) 4 → Some value ≡ value_in file index → store_of pages (4096 * area + (16 * i + 8)) 8 value ≡ entry_saved file area i pages
  entry_put i index value pages e h = saved_by i index (Some value) pages e h

  saved-append : (is : List ℕ) (i : ℕ) (pages : List Page) → saved file area (is ++ i ∷ []) pages ≡ entry_saved file area i (saved file area is pages)
  saved-append [] i pages = refl
  saved-append (j ∷ is) i pages = saved-append is i (entry_saved file area j pages)

  saved_more : (n : ℕ) (pages : List Page) → saved file area (numbers_below (n + 1)) pages ≡ entry_saved file area n (saved file area (numbers_below n) pages)
  saved_more n pages = ap (λ is. saved file area is pages) (one_more n) ∙ saved-append (numbers_below n) n pages

  -- one more entry is saved
  pub saved_step : (n j : ℕ) (start before after : List Page) → j ≡ n → before ≡ saved file area (numbers_below n) start → after ≡ entry_saved file area j before → after ≡ saved file area (numbers_below (n + 1)) start
  saved_step n j start before after e b h =
      h ∙ (ap (λ k. entry_saved file area k before) e ∙ (ap (entry_saved file area n) b ∙ sym (saved_more n start)))

-- ---- loading

filled-append : (es : List AreaEntry) (e : AreaEntry) (file : List ℕ) → msrs_loaded (es ++ e ∷ []) file ≡ with_msr e.index e.value (msrs_loaded es file)
filled-append [] e file = refl
filled-append (f ∷ es) e file = filled-append es e (with_msr f.index f.value file)

filled_more : (area : List ℕ) (n index value : ℕ) (file : List ℕ) → index ≡ number_at area (16 * n) 4 → value ≡ number_at area (16 * n + 8) 8 → msrs_loaded (entries_in (n + 1) area) file ≡ with_msr index value (msrs_loaded (entries_in n area) file)
filled_more area n index value file e h =
    let entry : ℕ → AreaEntry = λ i. record { index = area_index area i; value = area_value area i } in
    ap (λ is. msrs_loaded (map entry is) file) (one_more n)
    ∙ (ap (λ es. msrs_loaded es file) (map-append entry (numbers_below n) (n ∷ []))
    ∙ (filled-append (entries_in n area) (entry n) file
    ∙ (ap (λ i. with_msr i (area_value area n) (msrs_loaded (entries_in n area) file)) (index_is area n ∙ sym e)
    ∙ ap (λ v. with_msr index v (msrs_loaded (entries_in n area) file)) (value_is area n ∙ sym h))))

-- one more entry is loaded
pub filled_step : (area : List ℕ) (n k index value : ℕ) (start before after : List ℕ) → k ≡ n → index ≡ number_at area (16 * k) 4 → value ≡ number_at area (16 * k + 8) 8 → before ≡ msrs_loaded (entries_in n area) start → after ≡ with_msr index value before → after ≡ msrs_loaded (entries_in (n + 1) area) start
filled_step area n k index value start before after e i v b h =
    h ∙ (ap (with_msr index value) b ∙ sym (filled_more area n index value start (i ∙ ap (λ m. number_at area (16 * m) 4) e) (v ∙ ap (λ m. number_at area (16 * m + 8) 8) e)))

-- ---- bytes

-- one more byte is written
pub written_step : (bs : List ℕ) (i at b : ℕ) (before after whole : List Page) → i < length bs → b ≡ get_or bs i 0 → written before (at + i) (drop i bs) ≡ whole → after ≡ store_of before (at + i) 1 b → written after (at + (i + 1)) (drop (i + 1) bs) ≡ whole
written_step bs i at b before after whole l e w h =
    let more : drop i bs ≡ b ∷ drop (i + 1) bs = drop-cons bs i 0 l ∙ (ap (λ x. x ∷ drop (suc i) bs) (sym e) ∙ ap (λ n. b ∷ drop n bs) (sym (add-one i))) in
    let next : at + (i + 1) ≡ at + i + 1 = omega arith in
    ap (λ m. written m (at + (i + 1)) (drop (i + 1) bs)) h
    ∙ (ap (λ n. written (store_of before (at + i) 1 b) n (drop (i + 1) bs)) next ∙ (sym (ap (written before (at + i)) more) ∙ w))
