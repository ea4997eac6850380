-- Names, numbers, limits and ranges, worked out.
use Rattle.std.proofs.Common.{◌≡◌, ℕ, ◌*◌, ◌^◌, ◌≤◌, ◌<◌, true, false, [], ◌∷◌, refl, arith}
use Rattle.std.specs.Prelude.{codes, replicate}
use Rattle.hex.specs.Hex.{encode_with}
use Rattle.muen_num.specs.Fixed.{hex4}
use Rattle.muen_num.specs.Naming.{is_name}
use Rattle.muen_num.specs.Range.{numbers_below}
use Rattle.muen_num.specs.Tag.{tag_text}
use Rattle.muen_num.specs.declared.limits.TheConstants.{NAME_MOST, PAGE, LARGE_PAGE, GUEST_END, MOST_SUBJECTS, KERNEL_REGIONS, MOST_REGIONS}
use Rattle.muen_num.specs.declared.tag.TagPart.TheVariants.{Whole, Named, Ept}

-- ---- names

every_kind_of_byte : is_name (codes "A-z_0.9") ≡ true
unfolding is_name
every_kind_of_byte = refl

longest : is_name (replicate NAME_MOST 97) ≡ true
unfolding is_name
longest = refl

too_long : is_name (replicate 64 97) ≡ false
unfolding is_name
too_long = refl

empty : is_name [] ≡ false
unfolding is_name
empty = refl

slash : is_name (codes "a/b") ≡ false
unfolding is_name
slash = refl

above_ascii : is_name (195 ∷ 164 ∷ []) ≡ false
unfolding is_name
above_ascii = refl

-- ---- printed names and numbers

whole : tag_text (record { owner = codes "code"; part = Whole }) ≡ codes "code"
whole = refl

named : tag_text (record { owner = codes "plain"; part = Named (codes "text") }) ≡ codes "plain|text"
named = refl

tables : tag_text (record { owner = codes "one"; part = Ept }) ≡ codes "one:ept"
tables = refl

high_byte_first : hex4 768 ≡ codes "0300"
unfolding encode_with
high_byte_first = refl

-- ---- limits: `refl` and `omega arith` see their values

a_table_of_pages : PAGE * 512 ≡ LARGE_PAGE
a_table_of_pages = refl

four_tables : PAGE * 2 ^ (4 * 9) ≡ GUEST_END
four_tables = refl

-- the kernel's regions leave room for a policy's
kernel_regions : (subjects : ℕ) → subjects ≤ MOST_SUBJECTS → KERNEL_REGIONS * subjects < MOST_REGIONS
kernel_regions subjects h = omega arith

-- ---- ranges

three : numbers_below 3 ≡ 0 ∷ 1 ∷ 2 ∷ []
three = refl

no_number : numbers_below 0 ≡ []
no_number = refl
