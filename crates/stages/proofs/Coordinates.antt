-- The coordinates of a round's point.
use Rattle.std.proofs.Common.{◌≡◌, ℕ, zero, suc, ◌+◌, ◌-◌, ◌/◌, ◌%◌, ◌^◌, ◌<◌, ◌≤◌, List, ◌∷◌, ◌++◌, length, get_or, take, drop, sym, refl, ap, ◌∙◌, arith, length-append}
use Rattle.std.proofs.lemmas.List.{get_or-append_right, ext_get_or}
use Rattle.std.proofs.Math.Seq.{take-append_seam}
use Rattle.std.proofs.lemmas.Slice.{between_to_end}
use Rattle.fields.specs.Fields.{FieldOf}
use Rattle.tables.specs.Sums.{bit, corner}

module _ {F : Type 0} (f : FieldOf F) where
  length-corner : (n i : ℕ) → length (corner f n i) ≡ n
  length-corner zero i = refl
  length-corner (suc n) i = ap suc (length-corner n i)

  corner-bit : (n i j : ℕ) → j < n → get_or (corner f n i) j f.zero ≡ bit f (i / 2 ^ (n - suc j) % 2)
  corner-bit zero i j h = absurd (omega arith)
  corner-bit (suc n) i zero h = let e : n ≡ suc n - 1 = omega arith in ap (λ m. bit f (i / 2 ^ m % 2)) e
  corner-bit (suc n) i (suc j) h = let e : n - suc j ≡ suc n - suc (suc j) = omega arith in corner-bit n i j (omega arith) ∙ ap (λ m. bit f (i / 2 ^ m % 2)) e

  module _ (r : List F) (x : F) (left index : ℕ) where
    abbrev point : List F
    point = r ++ (x ∷ corner f left index)

    pub coordinate_after : (i : ℕ) → length r < i → i < length r + 1 + left → bit f (index / 2 ^ (left - (i - length r)) % 2) ≡ get_or point i f.zero
    coordinate_after i low high =
        let j : ℕ = i - length r - 1 in
        let e : i - length r ≡ suc j = omega arith in
        sym (get_or-append_right r (x ∷ corner f left index) (length r) i f.zero refl (omega arith)
        ∙ ap (λ m. get_or (x ∷ corner f left index) m f.zero) e
        ∙ corner-bit left index j (omega arith)
        ∙ sym (ap (λ m. bit f (index / 2 ^ (left - m) % 2)) e))

    pub length-point : length point ≡ length r + 1 + left
    length-point = length-append r (x ∷ corner f left index) ∙ omega (arith, length-corner left index)

    -- a list of the point's coordinates, and others after them
    pub filled_point : (ys zs : List F) → length ys ≡ length r + 1 + left
        → ((j : ℕ) → j < length ys → get_or ys j f.zero ≡ get_or point j f.zero) → take (length r + 1 + left) (ys ++ zs) ≡ point
    filled_point ys zs e same =
        ap (λ n. take n (ys ++ zs)) (sym e) ∙ take-append_seam ys zs ∙ ext_get_or f.zero ys point (e ∙ sym length-point) same

-- the last coordinates of a point, as the code takes them
module _ {F : Type 0} (point : List F) where
  pub back_part : (n : ℕ) → n ≤ length point → take (length point - n) (drop n point) ≡ drop n point
  back_part n h = between_to_end point n (length point) (omega arith)

  -- by another term for where the parts meet
  pub back_part_from : (n m : ℕ) → n ≡ m → n ≤ length point → take (length point - n) (drop n point) ≡ drop m point
  back_part_from n m e h = back_part n h ∙ ap (λ i. drop i point) e
