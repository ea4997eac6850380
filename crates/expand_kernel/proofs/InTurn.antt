-- What is known while the kernel's regions are made, for one subject after another.
use Rattle.std.proofs.Common.{◌≡◌, ◌⊎◌, inl, inr, ℕ, suc, true, List, [], ◌∷◌, ◌++◌, length, append_assoc, append-nil, refl, sym, ap, ◌∙◌, subst, arith}
use Rattle.std.specs.List.{All, list_all}
use Rattle.std.proofs.lemmas.Bool.{and_from}
use Rattle.ept_emit.specs.Pages.{ept_pages}
use Rattle.expand_grants.specs.declared.granted.Grants.{Grants}
use Rattle.expand_kernel.specs.ByIndex.{CanMap, kernel_for, kernel_for_each, granted_ranges}
use Rattle.expand_kernel.specs.Expansion.{HaveNames}
use Rattle.expand_kernel.specs.Regions.{kernel_regions}
use Rattle.policy_lawful.specs.declared.thing.Region.{Region}
use Rattle.muen_num.specs.Naming.{is_name}
use Rattle.policy_lawful.specs.declared.resolved.Subject.{Subject}
use Rattle.expand_grants.specs.declared.granted.GrantedWindow.{GrantedWindow}

-- those made so far, and those of the remaining subjects, are all
pub record InTurn (subjects : List Subject) (grants : List Grants) (remaining : List Subject) (granted : List Grants) (made : List Region) : Type 0 where
  pub all : made ++ kernel_for_each remaining granted ≡ kernel_for_each subjects grants
  pub can : All (λ g. CanMap g.windows) granted
  pub many : length remaining ≡ length granted
  -- where the names of those that remain are names, so are all
  pub named : HaveNames remaining → HaveNames subjects

pub at_first : (subjects : List Subject) (grants : List Grants) (remaining : List Subject) (granted : List Grants) (made : List Region)
    → remaining ≡ subjects → granted ≡ grants → made ≡ [] → All (λ g. CanMap g.windows) grants → length subjects ≡ length grants → InTurn subjects grants remaining granted made
at_first subjects grants remaining granted made s g none can many = record {
  all = (λ i. none i ++ kernel_for_each (s i) (g i));
  can = subst (λ gs. All (λ g. CanMap g.windows) gs) (sym g) can;
  many = ap length s ∙ many ∙ sym (ap length g);
  named = λ h. subst HaveNames s h;
}

-- the next windows can be mapped
pub can_next : (subjects : List Subject) (grants : List Grants) (remaining : List Subject) (granted : List Grants) (made : List Region) (g : Grants) (gs : List Grants) (windows : List GrantedWindow)
    → InTurn subjects grants remaining granted made → granted ≡ g ∷ gs → windows ≡ g.windows → CanMap windows
can_next subjects grants remaining granted made g gs windows h is of =
    subst CanMap (sym of) (subst (λ xs. All (λ g. CanMap g.windows) xs) is h.can 0 g (omega arith))

-- those for the next subject are made
pub next_made : (subjects : List Subject) (grants : List Grants) (remaining : List Subject) (granted : List Grants) (made : List Region) (s : Subject) (ss : List Subject) (g : Grants) (gs : List Grants) (pages : ℕ) (new more : List Region)
    → InTurn subjects grants remaining granted made → remaining ≡ s ∷ ss → granted ≡ g ∷ gs → pages ≡ ept_pages (granted_ranges g.windows) → new ≡ kernel_regions s.name pages → more ≡ made ++ new → is_name s.name ≡ true → InTurn subjects grants ss gs more
unfolding kernel_for_each
next_made subjects grants remaining granted made s ss g gs pages new more h is of count now then name = record {
  all =
      (λ i. (then ∙ ap (λ xs. made ++ xs) (now ∙ ap (kernel_regions s.name) count)) i ++ kernel_for_each ss gs)
      ∙ append_assoc made (kernel_for (s, g)) (kernel_for_each ss gs)
      ∙ (λ i. made ++ kernel_for_each (sym is i) (sym of i))
      ∙ h.all;
  can = λ k d l. subst (λ xs. All (λ g. CanMap g.windows) xs) of h.can (suc k) d (omega arith);
  many = omega (arith, ap length is, ap length of, h.many);
  named = λ rest. h.named (subst HaveNames (sym is) (and_from (is_name s.name) (list_all (λ s. is_name s.name) ss) name rest));
}

-- all are made
pub at_last : (subjects : List Subject) (grants : List Grants) (remaining : List Subject) (granted : List Grants) (made : List Region)
    → InTurn subjects grants remaining granted made → (remaining ≡ []) ⊎ (granted ≡ []) → made ≡ kernel_for_each subjects grants
unfolding kernel_for_each
at_last subjects grants remaining granted made h (inl e) = sym (append-nil made) ∙ (λ i. made ++ kernel_for_each (sym e i) granted) ∙ h.all
at_last subjects grants [] granted made h (inr e) = sym (append-nil made) ∙ h.all
at_last subjects grants (s ∷ ss) granted made h (inr e) = sym (append-nil made) ∙ (λ i. made ++ kernel_for_each (s ∷ ss) (sym e i)) ∙ h.all

-- all are gone through
pub all_named : (subjects : List Subject) (grants : List Grants) (remaining : List Subject) (granted : List Grants) (made : List Region)
    → InTurn subjects grants remaining granted made → (remaining ≡ []) ⊎ (granted ≡ []) → HaveNames subjects
all_named subjects grants [] granted made h e = h.named refl
all_named subjects grants (s ∷ ss) granted made h (inl e) = absurd (omega (arith, ap length e))
all_named subjects grants (s ∷ ss) granted made h (inr e) = absurd (omega (arith, ap length e, h.many))
