-- Headers that are matched where inference variables stand: an alias against which a constructor of the header stands gives way to its head form.
use Rattle.std.specs.Prelude.{◌≡◌, ◌⊎◌, ◌<◌, ℕ, zero, suc, Bool, true, false, not, List, [], ◌∷◌, ◌++◌, map, Option, Some, None, is_some, length, Result, Ok, Err}
use Rattle.std.proofs.Common.{refl, inl, inr, true≢false, ⊎_elim}
use Rattle.goal_terms.specs.Erased.{erased}
use Rattle.goal_terms.specs.Sorts.{sort_of}
use Rattle.goal_interner.specs.TableMeaning.{tree_at}
use Rattle.goal_terms.specs.Tree.{Tree, Trees, node, alias, variable, none, more, node_of, parts_of, forest}
use Rattle.goal_terms.specs.TreeOf.{leaf}
use Rattle.goal_terms.specs.View.{tree_of_ref, trees_seen}
use Rattle.goal_terms.specs.declared.heads.Head.TheVariants as head
use Rattle.goal_terms.specs.declared.heads.Node.{Node}
use Rattle.goal_terms.specs.declared.heads.Node.TheVariants as nodes
use Rattle.goal_terms.specs.declared.modes.TypingMode.{TypingMode}
use Rattle.goal_terms.specs.declared.predicates.Clause.{Clause}
use Rattle.goal_interner.specs.declared.term_nodes.TermId.{TermId}
use Rattle.goal_terms.specs.declared.view.Parts.{Parts}
use Rattle.goal_terms.specs.declared.view.TermRef.{TermRef}
use Rattle.goal_infer.specs.Unification.{is_alias}
use Rattle.goal_kinds.specs.declared.faults.Fault.{Fault}
use Rattle.goal_lists.specs.Answers.{setting_of}
use Rattle.goal_lists.specs.Headers.{parameter_of}
use Rattle.goal_lists.specs.Level.{HasHeadForm, HeadFormRefuted}
use Rattle.goal_lists.specs.Levels.{level}
use Rattle.goal_solver.specs.Answers.{IsOwed}
use Rattle.goal_solver.specs.GoingBack.{GoesBack, restored}
use Rattle.goal_solver.specs.HeadForms.{IsClosedForm}
use Rattle.goal_solver.specs.Relating.{ChangesRecords, all_bound}
use Rattle.goal_solver.specs.State.{State}
use Rattle.goal_solver.specs.declared.relate.headers.FoundForm.{FoundForm}

-- whether a header is gone into below a node: a constructor that is no parameter, since a parameter takes its term as it stands
abbrev pub is_entered : Node → Bool
is_entered (nodes.Head h) = not (is_some (parameter_of h))
is_entered (nodes.Alias k) = false
is_entered (nodes.Variable v) = false

-- one term is another with u in the place of a, at some places at which a header has such a constructor
unfoldable mutual
  pub IsPut : Tree → Tree → Tree → Tree → Tree → Type 0
  IsPut a u (node h hs) x y = (x ≡ y) ⊎ ((is_some (parameter_of h) ≡ false) × (((x ≡ a) × (y ≡ u)) ⊎ ((node_of x ≡ node_of y) × AreAllPut a u hs (parts_of x) (parts_of y))))
  IsPut a u (alias k hs) x y = x ≡ y
  IsPut a u (variable v) x y = x ≡ y

  pub AreAllPut : Tree → Tree → Trees → List Tree → List Tree → Type 0
  AreAllPut a u none xs ys = xs ≡ ys
  AreAllPut a u (more h hs) [] ys = ys ≡ []
  AreAllPut a u (more h hs) (x ∷ xs) [] = ⊥
  AreAllPut a u (more h hs) (x ∷ xs) (y ∷ ys) = IsPut a u h x y × AreAllPut a u hs xs ys

-- two terms are of one sort
abbrev pub HaveOneSort : Tree → Tree → Type 0
HaveOneSort t u = sort_of (node_of u) ≡ sort_of (node_of t)

-- an alias and what was found as its head form are in a table, and of one sort
abbrev pub IsFormIn : List Tree → FoundForm → Type 0
IsFormIn T f = (f.alias.0 < length T) × (f.form.0 < length T) × HaveOneSort (tree_at T f.alias) (tree_at T f.form)

-- the terms of some numbers
abbrev pub trees_at : List Tree → List TermId → List Tree
trees_at T ids = map (tree_at T) ids

-- a form is put in the place of its alias among given terms
abbrev pub ArePut : List Tree → FoundForm → List Tree → List Tree → List Tree → Type 0
ArePut T f hs xs ys = AreAllPut (tree_at T f.alias) (tree_at T f.form) (forest hs) xs ys

-- so it is of one given term, by its number and that of what came of it, and of several
abbrev pub IsPutAt : List Tree → FoundForm → TermRef → TermId → List Tree → TermId → Type 0
IsPutAt T f h id U made = IsPut (tree_at T f.alias) (tree_at T f.form) (tree_of_ref h) (tree_at T id) (tree_at U made)

abbrev pub ArePutAt : List Tree → FoundForm → Parts → List TermId → List Tree → List TermId → Type 0
ArePutAt T f hs ids U made = ArePut T f (trees_seen hs) (trees_at T ids) (trees_at U made)

-- so it is of the form that was found for an alias; without one, nothing is put
abbrev pub Enters : List Tree → TermId → Option TermId → List Tree → List TermId → List Tree → List TermId → Type 0
Enters T a None hs ids U made = made ≡ ids
Enters T a (Some u) hs ids U made = ArePut T (record { alias = a; form = u }) hs (trees_at T ids) (trees_at U made)

-- whether there is a head form
abbrev pub is_known : Result (Option TermId) Fault → Bool
is_known (Ok (Some id)) = true
is_known (Ok None) = false
is_known (Err f) = false

-- what was found is an alias
abbrev pub IsRigidForm : List Tree → Option TermId → Type 0
IsRigidForm T None = ⊥
IsRigidForm T (Some u) = is_alias (node_of (tree_at T u)) ≡ true

-- an alias stands behind those that were listed, or among them
abbrev pub Lists : TermId → List TermId → List TermId → Type 0
Lists a old new = (new ≡ old) ⊎ (new ≡ old ++ a ∷ [])

-- what is found as the head form of an alias at a depth: just that, if the alias is closed
pub record FindsForm (env : List Clause) (n : ℕ) (a : Tree) (old : State) (u : Tree) (new : State) : Type 0 where
  pub exact : (m : TypingMode) → IsOwed new m → IsClosedForm (erased a) env → HasHeadForm (level (setting_of old.tables m env) n) (erased a) (erased u)
  pub alone : ChangesRecords old new
  pub back : GoesBack old new

-- so it is of the term of a number
abbrev pub IsFoundForm : List Clause → ℕ → Tree → State → State → TermId → Type 0
IsFoundForm env n a old new id = (id.0 < length new.terms) × FindsForm env n a old (tree_at new.terms id) new

-- an alias has no constructor at a depth: it is refuted that it has a head form, or that is an alias which stands for itself
pub record LacksConstructor (env : List Clause) (n : ℕ) (a : Tree) (old new : State) : Type 0 where
  pub exact : (m : TypingMode) → IsOwed new m → IsClosedForm (erased a) env →
      HeadFormRefuted (level (setting_of old.tables m env) n) (erased a) ⊎ ((u : Tree) × HasHeadForm (level (setting_of old.tables m env) n) (erased a) u × (is_alias (node_of u) ≡ true))
  pub back : GoesBack old new

-- an alias of the given terms gives way to its head form, which is found at less depth
pub record OpensOne (env : List Clause) (hs xs : List Tree) (old : State) (ys : List Tree) (new : State) : Type 0 where
  pub depth : ℕ
  pub below : depth < old.remaining_depth
  pub alias : Tree
  pub form : Tree
  pub finds : FindsForm env depth alias old form new
  pub put : AreAllPut alias form (forest hs) xs ys

-- or none does, since no head form of it is known so far
abbrev pub OpensAtMost : List Clause → List Tree → List Tree → State → List Tree → State → Type 0
OpensAtMost env hs xs old ys new = OpensOne env hs xs old ys new ⊎ ((ys ≡ xs) × (new ≡ restored old new))

-- so many aliases are looked at, one after the other
unfoldable pub OpensSo : List Clause → List Tree → ℕ → List Tree → State → List Tree → State → Type 0
OpensSo env hs zero xs s ys u = (ys ≡ xs) × (u ≡ s)
OpensSo env hs (suc k) xs s ys u = (zs : List Tree) × (z : State) × OpensSo env hs k xs s zs z × OpensAtMost env hs zs z ys u

abbrev pub Opens : List Clause → List Tree → List Tree → State → List Tree → State → Type 0
Opens env hs xs s ys u = (k : ℕ) × OpensSo env hs k xs s ys u

-- so it is of terms by their numbers, and those of what came of them
abbrev pub OpensAt : List Clause → Parts → List TermId → State → List TermId → State → Type 0
OpensAt env hs ids s made u = Opens env (trees_seen hs) (trees_at s.terms ids) s (trees_at u.terms made) u

-- so it is until one of them is refused
pub record StopsOpening (env : List Clause) (hs xs : List Tree) (old new : State) : Type 0 where
  pub opened : List Tree
  pub last : State
  pub opens : Opens env hs xs old opened last
  pub depth : ℕ
  pub below : depth < last.remaining_depth
  pub alias : Tree
  pub lacks : LacksConstructor env depth alias last new

-- and of terms by their numbers
abbrev pub StopsAt : List Clause → Parts → List TermId → State → State → Type 0
StopsAt env hs ids s u = StopsOpening env (trees_seen hs) (trees_at s.terms ids) s u

-- the given terms of a header, with bindings followed, in a state that may have more terms
pub record IsFollowed (given : List Tree) (old : State) (followed : List Tree) (new : State) : Type 0 where
  pub follows : map erased followed ≡ all_bound old (map erased given)
  pub grown : new ≡ restored old new

-- for the examples: `[t]`
abbrev slice_of : Tree → Tree
slice_of t = node head.Slice (more t none)

-- below a slice of the header the form stands in the place of the alias
put-below : (a u : Tree) → IsPut a u (slice_of (slice_of (leaf head.Bool))) (slice_of a) (slice_of u)
unfolding IsPut
put-below a u = inr (refl, inr (refl, (inr (refl, inl (refl, refl)), refl)))

-- where the header has a parameter the alias stays
put-nowhere : (a u x y : Tree) → IsPut a u (leaf (head.TyParam 0)) x y → x ≡ y
unfolding IsPut
put-nowhere a u x y h = ⊎_elim (λ e. e) (λ p. absurd (true≢false p.0)) h
