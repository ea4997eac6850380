-- The finite map of a list of entries.
use Rattle.std.proofs.Common.{◌≡◌, ◌≢◌, ℕ, Bool, true, false, cond, List, [], ◌∷◌, Option, Some, refl, sym, ap, ◌∙◌}
use Rattle.std.proofs.lemmas.Bool.{false≢true}
use Rattle.std.specs.Str.{bytes_eq}
use Rattle.std.specs.Ordering.{nat_cmp}
use Rattle.std.specs.Cmp.Lexicographic.{slice_cmp, texts_ties, nat_list_cmp_total}
use Rattle.std.specs.FinMap.{get, insert, from_entries, find, get-from_entries, get-insert, same_map, slice_cmp-IsAntisymmetric, nat_cmp-IsAntisymmetric}
use Rattle.std.proofs.lemmas.Slice.Eq.{bytes_eq-Decides}
use Rattle.muen_outside.specs.Store.{Store, find_bytes, put_entry}

abbrev Entries : Type 0
Entries = List (List ℕ × List ℕ)

abbrev pub stored : Entries → Store
stored es = from_entries es

find-by_bytes : (q : List ℕ) (es : Entries) → find (slice_cmp nat_cmp) q es ≡ find_bytes q es
find-by_bytes q [] = refl
find-by_bytes q (e ∷ es) =
    ap (λ t. cond t (Some e.1) (find (slice_cmp nat_cmp) q es)) (sym (texts_ties q e.0))
    ∙ ap (λ r. cond (bytes_eq q e.0) (Some e.1) r) (find-by_bytes q es)

-- what the map has under a name
pub get-stored : (es : Entries) (q : List ℕ) → get (stored es) q ≡ find_bytes q es
get-stored es q = get-from_entries nat_list_cmp_total es q ∙ find-by_bytes q es

pub get-insert_bytes : (m : Store) (k v q : List ℕ) → get (insert m k v) q ≡ cond (bytes_eq q k) (Some v) (get m q)
get-insert_bytes m k v q = get-insert nat_list_cmp_total m k v q ∙ ap (λ t. cond t (Some v) (get m q)) (sym (texts_ties q k))

hidden : (t : Bool) (x y r : Option (List ℕ)) → cond t x r ≡ cond t x (cond t y r)
hidden true x y r = refl
hidden false x y r = refl

both_same : (q k e : List ℕ) → bytes_eq k e ≡ true → bytes_eq q e ≡ bytes_eq q k
both_same q k e h = ap (λ x. bytes_eq q x) (sym ((bytes_eq-Decides k e).0 h))

swapped : (s t : Bool) (x y r : Option (List ℕ)) → (s ≡ true → t ≡ true → ⊥) → cond s x (cond t y r) ≡ cond t y (cond s x r)
swapped true true x y r n = absurd (n refl refl)
swapped true false x y r n = refl
swapped false true x y r n = refl
swapped false false x y r n = refl

apart : (q k e : List ℕ) (x y r : Option (List ℕ)) → bytes_eq k e ≡ false → cond (bytes_eq q e) x (cond (bytes_eq q k) y r) ≡ cond (bytes_eq q k) y (cond (bytes_eq q e) x r)
apart q k e x y r h = swapped _ _ x y r
    (λ a b. false≢true (sym h ∙ (bytes_eq-Decides k e).1 (sym ((bytes_eq-Decides q k).0 b) ∙ (bytes_eq-Decides q e).0 a)))

found_of : (t : Bool) (q k v : List ℕ) (e : List ℕ × List ℕ) (es : Entries) → bytes_eq k e.0 ≡ t → find_bytes q (put_entry k v es) ≡ cond (bytes_eq q k) (Some v) (find_bytes q es) → find_bytes q (cond t ((e.0, v) ∷ es) (e ∷ put_entry k v es)) ≡ cond (bytes_eq q k) (Some v) (find_bytes q (e ∷ es))
found_of true q k v e es h i = ap (λ t. cond t (Some v) (find_bytes q es)) (both_same q k e.0 h) ∙ hidden (bytes_eq q k) (Some v) (Some e.1) (find_bytes q es) ∙ ap (λ t. cond (bytes_eq q k) (Some v) (cond t (Some e.1) (find_bytes q es))) (sym (both_same q k e.0 h))
found_of false q k v e es h i = ap (λ r. cond (bytes_eq q e.0) (Some e.1) r) i ∙ apart q k e.0 _ _ _ h

find-put_entry : (q k v : List ℕ) (es : Entries) → find_bytes q (put_entry k v es) ≡ cond (bytes_eq q k) (Some v) (find_bytes q es)
find-put_entry q k v [] = refl
find-put_entry q k v (e ∷ es) = found_of (bytes_eq k e.0) q k v e es refl (find-put_entry q k v es)

-- a write of an entry is an insert into the map
pub stored-put_entry : (es : Entries) (k v : List ℕ) → stored (put_entry k v es) ≡ insert (stored es) k v
stored-put_entry es k v = same_map nat_list_cmp_total (slice_cmp-IsAntisymmetric nat_cmp-IsAntisymmetric) _ _
    (λ q. get-stored _ q ∙ find-put_entry q k v es ∙ ap (λ r. cond (bytes_eq q k) (Some v) r) (sym (get-stored es q)) ∙ sym (get-insert_bytes (stored es) k v q))

-- an insert changes nothing under another name
other : (q k : List ℕ) (x y : Option (List ℕ)) (t : Bool) → bytes_eq q k ≡ t → q ≢ k → cond t x y ≡ y
other q k x y true e ne = absurd (ne ((bytes_eq-Decides q k).0 e))
other q k x y false e ne = refl

pub keeps_others : (m : Store) (k v q : List ℕ) → q ≢ k → get (insert m k v) q ≡ get m q
keeps_others m k v q ne = get-insert_bytes m k v q ∙ other q k (Some v) (get m q) (bytes_eq q k) refl ne

pub ruleset held_map = (get-stored, stored-put_entry, keeps_others)
