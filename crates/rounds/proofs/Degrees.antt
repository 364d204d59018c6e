-- The degrees of the formulas, from the degrees of the coordinates of their points.
use Rattle.std.proofs.Common.{◌≡◌, ℕ, zero, suc, ◌+◌, ◌-◌, ◌^◌, ◌<◌, ◌≤◌, List, [], ◌∷◌, ◌++◌, map, length, take, drop, refl, arith}
use lib.ListN.{length-map}
use Rattle.fields.specs.Fields.{FieldOf, Ops}
use Rattle.tables.specs.Formulas.{less, eq_pair, eq, lt, cube_sum, extension}
use Rattle.rounds.specs.Polynomials.{Degree, poly_add, poly_mul, polynomials}
use Rattle.rounds.specs.Readings.{degrees, Degrees}
use Rattle.rounds.specs.Summands.{round_point}
use Rattle.rounds.specs.Rounds.{RoundVariable}

pub weaken : {F : Type 0} {a b : ℕ} {p : List F} → a ≤ b → Degree a p → Degree b p
weaken h d = record { within = omega (arith, d.within) }

pub degrees-append : {F : Type 0} (p q : List (List F)) → degrees (p ++ q) ≡ degrees p + degrees q
degrees-append [] q = omega arith
degrees-append (x ∷ p) q = omega (arith, degrees-append p q)

pub degrees-consts : {F : Type 0} (b : List F) → degrees (map (λ x. x ∷ []) b) ≡ 0
degrees-consts [] = refl
degrees-consts (x ∷ b) = omega (arith, degrees-consts b)

module _ {F : Type 0} (f : FieldOf F) where
  abbrev o : Ops F (List F)
  o = polynomials f

  length-poly_add : (d : ℕ) (p q : List F) → length p ≤ d → length q ≤ d → length (poly_add f p q) ≤ d
  length-poly_add d [] q h k = k
  length-poly_add d (a ∷ p) [] h k = h
  length-poly_add zero (a ∷ p) (b ∷ q) h k = omega arith
  length-poly_add (suc d) (a ∷ p) (b ∷ q) h k = omega (arith, length-poly_add d p q (omega arith) (omega arith))

  length-poly_mul : (a b : ℕ) (p q : List F) → length p ≤ suc a → length q ≤ suc b → length (poly_mul f p q) ≤ suc (a + b)
  length-poly_mul a b [] q h k = omega arith
  length-poly_mul a b (x ∷ []) q h k =
      length-poly_add (suc (a + b)) (map (f.mul x) q) (f.zero ∷ []) (rw length-map (omega arith)) (omega arith)
  length-poly_mul zero b (x ∷ y ∷ p) q h k = omega arith
  length-poly_mul (suc a) b (x ∷ y ∷ p) q h k =
      length-poly_add (suc (suc a + b)) (map (f.mul x) q) (f.zero ∷ poly_mul f (y ∷ p) q) (rw length-map (omega arith))
      (omega (arith, length-poly_mul a b (y ∷ p) q (omega arith) k))

  pub degree_own : (p : List F) → Degree (length p - 1) p
  degree_own p = record { within = omega arith }

  pub degree_const : (d : ℕ) (x : F) → Degree d (x ∷ [])
  degree_const d x = record { within = omega arith }

  pub degree_plus : {d : ℕ} {p q : List F} → Degree d p → Degree d q → Degree d (poly_add f p q)
  degree_plus {d} {p} {q} h k = record { within = length-poly_add (suc d) p q h.within k.within }

  pub degree_times : {a b : ℕ} {p q : List F} → Degree a p → Degree b q → Degree (a + b) (poly_mul f p q)
  degree_times {a} {b} {p} {q} h k = record { within = length-poly_mul a b p q h.within k.within }

  pub degree_less : {d : ℕ} {p q : List F} → Degree d p → Degree d q → Degree d (less f o p q)
  degree_less {q = q} h k = degree_plus h (record { within = rw length-map k.within })

  degree_eq_pair : {a b : ℕ} {p q : List F} → Degree a p → Degree b q → Degree (a + b) (eq_pair f o p q)
  degree_eq_pair {a} {b} h k =
      degree_plus (degree_times h k) (degree_times (degree_less (degree_const a f.one) h) (degree_less (degree_const b f.one) k))

  pub degree_eq : (xs ys : List (List F)) → Degree (degrees xs + degrees ys) (eq f o xs ys)
  degree_eq [] ys = degree_const (0 + degrees ys) f.one
  degree_eq (x ∷ xs) [] = degree_const (degrees (x ∷ xs) + 0) f.one
  degree_eq (x ∷ xs) (y ∷ ys) = weaken (omega arith) (degree_times (degree_eq_pair (degree_own x) (degree_own y)) (degree_eq xs ys))

  pub degree_lt : (xs ys : List (List F)) → Degree (degrees xs + degrees ys) (lt f o xs ys)
  degree_lt [] ys = degree_const (0 + degrees ys) f.zero
  degree_lt (x ∷ xs) [] = degree_const (degrees (x ∷ xs) + 0) f.zero
  degree_lt (x ∷ xs) (y ∷ ys) =
      degree_plus (weaken (omega arith) (degree_times (degree_less (degree_const (length x - 1) f.one) (degree_own x)) (degree_own y)))
      (weaken (omega arith) (degree_times (degree_eq_pair (degree_own x) (degree_own y)) (degree_lt xs ys)))

  pub degree_cube_sum : (d n : ℕ) (g : ℕ → List F → List F) → ((i : ℕ) (b : List F) → Degree d (g i b)) → Degree d (cube_sum f o n g)
  degree_cube_sum d zero g h = h 0 []
  degree_cube_sum d (suc n) g h =
      degree_plus (degree_cube_sum d n (λ i b. g i (f.zero ∷ b)) (λ i b. h i (f.zero ∷ b)))
      (degree_cube_sum d n (λ i b. g (2 ^ n + i) (f.one ∷ b)) (λ i b. h (2 ^ n + i) (f.one ∷ b)))

  pub degree_extension : (n : ℕ) (e : ℕ → F) (p : List (List F)) → Degree (degrees p) (extension f o n e p)
  degree_extension n e p =
      degree_cube_sum (degrees p) n (λ i b. poly_mul f (e i ∷ []) (eq f o (map o.const b) p))
      (λ i b. weaken (omega (arith, degrees-consts b)) (degree_times (degree_const 0 (e i)) (degree_eq (map o.const b) p)))

  pub degrees-add : Degrees f
  degrees-add = record {
    of_consts = degrees-consts;
    of_append = degrees-append;
    of_less = degree_less;
    of_plus = degree_plus;
    of_times = degree_times;
    of_eq = degree_eq;
    of_lt = degree_lt;
    of_cube_sum = degree_cube_sum;
    of_extension = degree_extension;
  }

  consts-take : (k : ℕ) (b : List F) → degrees (take k (map (λ a. a ∷ []) b)) ≡ 0
  consts-take zero b = refl
  consts-take (suc k) [] = refl
  consts-take (suc k) (x ∷ b) = omega (arith, consts-take k b)

  consts-drop : (k : ℕ) (b : List F) → degrees (drop k (map (λ a. a ∷ []) b)) ≡ 0
  consts-drop zero b = degrees-consts b
  consts-drop (suc k) [] = refl
  consts-drop (suc k) (x ∷ b) = consts-drop k b

  before : (k : ℕ) (r b : List F) → length r < k → (degrees (take k (round_point f r b)) ≡ 1) × (degrees (drop k (round_point f r b)) ≡ 0)
  before zero r b h = absurd (omega arith)
  before (suc k) [] b h = (omega (arith, consts-take k b), consts-drop k b)
  before (suc k) (x ∷ r) b h = let rest = before k r b (omega arith) in (omega (arith, rest.0), rest.1)

  after : (k : ℕ) (r b : List F) → k ≤ length r → (degrees (take k (round_point f r b)) ≡ 0) × (degrees (drop k (round_point f r b)) ≡ 1)
  after zero [] b h = (refl, omega (arith, degrees-consts b))
  after zero (x ∷ r) b h = let rest = after 0 r b (omega arith) in (refl, omega (arith, rest.1))
  after (suc k) [] b h = absurd (omega arith)
  after (suc k) (x ∷ r) b h = let rest = after k r b (omega arith) in (omega (arith, rest.0), rest.1)

  pub round_variable : (k : ℕ) (r b : List F) → RoundVariable f k r b
  round_variable k r b = record { before = before k r b; after = after k r b }
