-- The windows of a subject in parts: those on what its component provides are on no region, and are counted at the component.
use Rattle.std.proofs.Common.{◌≡◌, ℕ, suc, ◌+◌, false, List, [], ◌∷◌, ◌++◌, length, map, refl, sym, ap, ◌∙◌, arith, length-append}
use Rattle.std.specs.Prelude.{◌&&◌, ◌||◌}
use Rattle.std.specs.List.{enumerate_from, filter_map, list_any}
use Rattle.std.specs.Str.{bytes_eq}
use Rattle.std.proofs.lemmas.List.{append-nil, length-map}
use Rattle.std.proofs.lemmas.List.Elements.{filter_map-append}
use Rattle.std.proofs.lemmas.List.Folds.{list_any-append}
use Rattle.std.proofs.Math.Bool.{or-false}
use Rattle.policy_lawful.specs.ByIndex.{provided_at}
use Rattle.policy_lawful.specs.Resolution.{Resolution}
use Rattle.policy_lawful.specs.Views.{provided_view, views_of}
use Rattle.policy_lawful.specs.declared.resolved.Subject.{Subject}
use Rattle.policy_lawful.specs.source.Provided.{Provided}
use Rattle.policy_lawful.specs.source.Tau0.{Tau0}
use Rattle.policy_rules.specs.Tau0.{is_chooser, is_chooser_by, may_write}
use Rattle.policy_rules.specs.Writers.{user_of, uses_of}
use Rattle.policy_views.specs.Parts.{behind_views, front_views, given_views}
use Rattle.policy_views.proofs.ViewsInParts.{in_parts}

-- ---- rules 8 and 16

no_user : (k : ℕ) (name : List ℕ) (n : ℕ) (xs : List Provided) → filter_map (user_of k name) (map provided_view (enumerate_from n xs)) ≡ []
no_user k name n [] = refl
no_user k name n (x ∷ xs) = no_user k name (n + 1) xs

pub uses_parted : (r : Resolution) (k : ℕ) (s : Subject) → uses_of r k s ≡ filter_map (user_of k s.name) (front_views r s) ++ filter_map (user_of k s.name) (behind_views r s)
uses_parted r k s =
    ap (filter_map (user_of k s.name)) (sym (in_parts r s))
    ∙ filter_map-append (user_of k s.name) (front_views r s ++ given_views r s) (behind_views r s)
    ∙ ap (λ us. us ++ filter_map (user_of k s.name) (behind_views r s))
    (filter_map-append (user_of k s.name) (front_views r s) (given_views r s)
    ∙ ap (λ us. filter_map (user_of k s.name) (front_views r s) ++ us) (no_user k s.name 0 (provided_at r.components s.component))
    ∙ append-nil (filter_map (user_of k s.name) (front_views r s)))

none_writes : (name : List ℕ) (n : ℕ) (xs : List Provided) → list_any (may_write name) (map provided_view (enumerate_from n xs)) ≡ false
none_writes name n [] = refl
none_writes name n (x ∷ xs) = none_writes name (n + 1) xs

writes_parted : (r : Resolution) (name : List ℕ) (s : Subject) → list_any (may_write name) (views_of r s) ≡ (list_any (may_write name) (front_views r s) || list_any (may_write name) (behind_views r s))
writes_parted r name s =
    ap (list_any (may_write name)) (sym (in_parts r s))
    ∙ list_any-append (may_write name) (front_views r s ++ given_views r s) (behind_views r s)
    ∙ ap (λ b. b || list_any (may_write name) (behind_views r s))
    (list_any-append (may_write name) (front_views r s) (given_views r s)
    ∙ ap (λ b. list_any (may_write name) (front_views r s) || b) (none_writes name 0 (provided_at r.components s.component))
    ∙ or-false (list_any (may_write name) (front_views r s)))

pub chooser_parted : (r : Resolution) (t : Tau0) (s : Subject) → is_chooser r t s ≡ is_chooser_by t (front_views r s) (behind_views r s) s
chooser_parted r t s = ap (λ b. bytes_eq s.name t.subject && b) (writes_parted r t.region s)

-- ---- rule 20

numbered : {X : Type 0} (n : ℕ) (xs : List X) → length (enumerate_from n xs) ≡ length xs
numbered n [] = refl
numbered n (x ∷ xs) = ap suc (numbered (n + 1) xs)

pub many_views : (r : Resolution) (s : Subject) → length (views_of r s) ≡ length (front_views r s) + length (provided_at r.components s.component) + length (behind_views r s)
many_views r s =
    let given = provided_at r.components s.component in
    let all : length (views_of r s) ≡ length (front_views r s ++ given_views r s ++ behind_views r s) = ap length (sym (in_parts r s)) in
    let ends : length (front_views r s ++ given_views r s ++ behind_views r s) ≡ length (front_views r s ++ given_views r s) + length (behind_views r s) = length-append (front_views r s ++ given_views r s) (behind_views r s) in
    let first : length (front_views r s ++ given_views r s) ≡ length (front_views r s) + length (given_views r s) = length-append (front_views r s) (given_views r s) in
    let middle : length (given_views r s) ≡ length given = length-map (enumerate_from 0 given) provided_view ∙ numbered 0 given in
    omega (arith, all, ends, first, middle)
