-- A formula read over polynomials and then evaluated at x is the formula read over elements, at x; and the degree that a reading has.
use Rattle.std.specs.Prelude.{◌≡◌, ℕ, ◌+◌, ◌-◌, List, [], ◌∷◌, ◌++◌, map, length}
use Rattle.fields.specs.Fields.{FieldOf, elements}
use Rattle.tables.specs.Formulas.{less, eq, lt, cube_sum, extension}
use Rattle.rounds.specs.Polynomials.{Degree, poly_add, poly_mul, polynomials, value}

-- the degrees of a point's coordinates, added up
abbrev pub degrees : {F : Type 0} → List (List F) → ℕ
degrees [] = 0
degrees (p ∷ ps) = (length p - 1) + degrees ps

module _ {F : Type 0} (f : FieldOf F) where
  -- each coordinate evaluated at x
  abbrev pub values : F → List (List F) → List F
  values x = map (λ p. value f p x)

  -- what evaluating at x keeps
  pub record Evaluates (x : F) : Type 0 where
    pub on_const : (a : F) → value f (a ∷ []) x ≡ a
    pub on_plus : (p q : List F) → value f (poly_add f p q) x ≡ f.add (value f p x) (value f q x)
    pub on_times : (p q : List F) → value f (poly_mul f p q) x ≡ f.mul (value f p x) (value f q x)
    pub on_minus : (p : List F) → value f (map f.neg p) x ≡ f.neg (value f p x)
    pub on_eq : (ps qs : List (List F)) → value f (eq f (polynomials f) ps qs) x ≡ eq f (elements f) (values x ps) (values x qs)
    pub on_lt : (ps qs : List (List F)) → value f (lt f (polynomials f) ps qs) x ≡ lt f (elements f) (values x ps) (values x qs)
    pub on_cube_sum : (n : ℕ) (g : ℕ → List F → List F)
        → value f (cube_sum f (polynomials f) n g) x ≡ cube_sum f (elements f) n (λ i b. value f (g i b) x)
    pub on_extension : (n : ℕ) (e : ℕ → F) (ps : List (List F))
        → value f (extension f (polynomials f) n e ps) x ≡ extension f (elements f) n e (values x ps)

  -- the degrees of points, sums, products and formulas
  pub record Degrees : Type 0 where
    pub of_consts : (b : List F) → degrees (map (λ a. a ∷ []) b) ≡ 0
    pub of_append : (ps qs : List (List F)) → degrees (ps ++ qs) ≡ degrees ps + degrees qs
    pub of_less : {d : ℕ} {p q : List F} → Degree d p → Degree d q → Degree d (less f (polynomials f) p q)
    pub of_plus : {d : ℕ} {p q : List F} → Degree d p → Degree d q → Degree d (poly_add f p q)
    pub of_times : {a b : ℕ} {p q : List F} → Degree a p → Degree b q → Degree (a + b) (poly_mul f p q)
    pub of_eq : (ps qs : List (List F)) → Degree (degrees ps + degrees qs) (eq f (polynomials f) ps qs)
    pub of_lt : (ps qs : List (List F)) → Degree (degrees ps + degrees qs) (lt f (polynomials f) ps qs)
    pub of_cube_sum : (d n : ℕ) (g : ℕ → List F → List F) → ((i : ℕ) (b : List F) → Degree d (g i b)) → Degree d (cube_sum f (polynomials f) n g)
    pub of_extension : (n : ℕ) (e : ℕ → F) (ps : List (List F)) → Degree (degrees ps) (extension f (polynomials f) n e ps)

abbrev pub FormulasEvaluate : Type 0 → Type 0
FormulasEvaluate F = (f : FieldOf F) (x : F) → Evaluates f x

abbrev pub DegreesAdd : Type 0 → Type 0
DegreesAdd F = (f : FieldOf F) → Degrees f
