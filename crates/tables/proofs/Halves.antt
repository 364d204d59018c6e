-- The extension of a list by its two halves, and of lists of two and four entries.
use Rattle.std.proofs.Common.{◌≡◌, ℕ, suc, ◌+◌, ◌-◌, ◌/◌, ◌^◌, ◌<◌, List, [], ◌∷◌, ◌++◌, length, get_or, take, drop, sym, refl, ap, ◌∙◌, ap₂, arith, get_or-drop, get_or-take}
use native.Mathlib.Nat.{two-pow-succ}
use Rattle.std.proofs.lemmas.Slice.{first_rest}
use Rattle.fields.specs.Fields.{FieldOf, elements}
use Rattle.tables.specs.Formulas.{between, extension}
use Rattle.tables.specs.Tables.{entry}
use Rattle.tables.proofs.Extension.{ext_cong, ext_none, ext_halves}

-- a point after its first element, as the code takes that part
abbrev pub rest : {A : Type 0} → List A → List A
rest p = take (length p - 1) (drop 1 p)

pub first_and_rest : {A : Type 0} (p : List A) (x : A) → 0 < length p → x ≡ get_or p 0 x → p ≡ x ∷ rest p
first_and_rest p x h is = first_rest p x h ∙ ap (λ y. y ∷ rest p) (sym is)

half : (m n : ℕ) → m ≡ 2 ^ suc n → m / 2 ≡ 2 ^ n
half m n fits = let p = two-pow-succ n in omega arith

-- the corners of p and q are twice those without the first element of p
pub twice_rest : {A : Type 0} (p q : List A) → A → 0 < length p → 2 ^ length (p ++ q) ≡ 2 ^ length (rest p ++ q) + 2 ^ length (rest p ++ q)
twice_rest p q d h = ap (λ z. 2 ^ length (z ++ q)) (first_rest p d h) ∙ two-pow-succ (length (rest p ++ q))

module _ {F : Type 0} (f : FieldOf F) where
  -- the extension of a list at a point
  abbrev pub value : List F → List F → F
  value es p = extension f (elements f) (length p) (entry f es) p

  -- the extensions of the halves make up that of the list
  pub value_halves : (es low high p q : List F) (x a b : F) → low ≡ take (length es / 2) es → high ≡ drop (length es / 2) es → p ≡ x ∷ q → length es ≡ 2 ^ length p
      → a ≡ value low q → b ≡ value high q → between f (elements f) x a b ≡ value es p
  value_halves es low high p q x a b l h s fits ea eb =
      let n = length q in
      let middle = half (length es) n (fits ∙ ap (λ (z : List F). 2 ^ length z) s) in
      let lower : a ≡ extension f (elements f) n (entry f es) q =
      ea ∙ ap (λ z. value z q) (l ∙ ap (λ (m : ℕ). take m es) middle) ∙ ext_cong f n (entry f (take (2 ^ n) es)) (entry f es) q (λ i k. get_or-take (2 ^ n) es i f.zero k) in
      let upper : b ≡ extension f (elements f) n (λ i. entry f es (2 ^ n + i)) q =
      eb ∙ ap (λ z. value z q) (h ∙ ap (λ (m : ℕ). drop m es) middle) ∙ ext_cong f n (entry f (drop (2 ^ n) es)) (λ i. entry f es (2 ^ n + i)) q (λ i k. get_or-drop (2 ^ n) es i f.zero) in
      ap₂ (between f (elements f) x) lower upper ∙ sym (ext_halves f n (entry f es) x q) ∙ ap (value es) (sym s)

  value_one : (a : F) → a ≡ value (a ∷ []) []
  value_one a = sym (ext_none f (entry f (a ∷ [])) [])

  value_two : (x a b : F) → between f (elements f) x a b ≡ value (a ∷ b ∷ []) (x ∷ [])
  value_two x a b = value_halves (a ∷ b ∷ []) (a ∷ []) (b ∷ []) (x ∷ []) [] x a b refl refl refl refl (value_one a) (value_one b)

  value_four : (x y a b c d : F) → between f (elements f) x (between f (elements f) y a b) (between f (elements f) y c d) ≡ value (a ∷ b ∷ c ∷ d ∷ []) (x ∷ y ∷ [])
  value_four x y a b c d = value_halves (a ∷ b ∷ c ∷ d ∷ []) (a ∷ b ∷ []) (c ∷ d ∷ []) (x ∷ y ∷ []) (y ∷ []) x _ _ refl refl refl refl (value_two y a b) (value_two y c d)

  -- the same for a list and a point whose elements were read
  pub read_two : (es p : List F) (x a b : F) → length p ≡ 1 → length es ≡ 2 ^ length p → x ≡ get_or p 0 x → a ≡ get_or es 0 a → b ≡ get_or es 1 b
      → between f (elements f) x a b ≡ value es p
  read_two (e ∷ g ∷ []) (u ∷ []) x a b n fits ex ea eb = cc (value_two u e g)
  read_two es [] x a b n fits ex ea eb = absurd (omega arith)
  read_two es (u ∷ v ∷ p) x a b n fits ex ea eb = absurd (omega arith)
  read_two [] (u ∷ []) x a b n fits ex ea eb = absurd (omega arith)
  read_two (e ∷ []) (u ∷ []) x a b n fits ex ea eb = absurd (omega arith)
  read_two (e ∷ g ∷ h ∷ es) (u ∷ []) x a b n fits ex ea eb = absurd (omega arith)

  pub read_four : (es p : List F) (x y a b c d : F) → length p ≡ 2 → length es ≡ 2 ^ length p → x ≡ get_or p 0 x → y ≡ get_or p 1 y
      → a ≡ get_or es 0 a → b ≡ get_or es 1 b → c ≡ get_or es 2 c → d ≡ get_or es 3 d
      → between f (elements f) x (between f (elements f) y a b) (between f (elements f) y c d) ≡ value es p
  read_four (e ∷ g ∷ h ∷ i ∷ []) (u ∷ v ∷ []) x y a b c d n fits ex ey ea eb ec ed = cc (value_four u v e g h i)
  read_four es [] x y a b c d n fits ex ey ea eb ec ed = absurd (omega arith)
  read_four es (u ∷ []) x y a b c d n fits ex ey ea eb ec ed = absurd (omega arith)
  read_four es (u ∷ v ∷ w ∷ p) x y a b c d n fits ex ey ea eb ec ed = absurd (omega arith)
  read_four [] (u ∷ v ∷ []) x y a b c d n fits ex ey ea eb ec ed = absurd (omega arith)
  read_four (e ∷ []) (u ∷ v ∷ []) x y a b c d n fits ex ey ea eb ec ed = absurd (omega arith)
  read_four (e ∷ g ∷ []) (u ∷ v ∷ []) x y a b c d n fits ex ey ea eb ec ed = absurd (omega arith)
  read_four (e ∷ g ∷ h ∷ []) (u ∷ v ∷ []) x y a b c d n fits ex ey ea eb ec ed = absurd (omega arith)
  read_four (e ∷ g ∷ h ∷ i ∷ j ∷ es) (u ∷ v ∷ []) x y a b c d n fits ex ey ea eb ec ed = absurd (omega arith)
