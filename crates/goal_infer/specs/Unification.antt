-- What unification does to a state, and what its answers say.
use Rattle.std.specs.Prelude.{◌≡◌, ◌≢◌, ◌⊎◌, ◌↔◌, ◌<◌, ◌&&◌, ◌||◌, IsTrue, List, map, Bool, true, false, not, if◌then◌else◌, Option, Some, None}
use Rattle.goal_terms.specs.Tree.{Tree, Trees, node, variable, none, more, node_of}
use Rattle.goal_terms.specs.NodeTests.{is_made, is_any_infer, some_node}
use Rattle.goal_terms.specs.SameHead.{top_of}
use Rattle.goal_terms.specs.SameTree.{same_node, same_tree}
use Rattle.goal_interner.specs.TableMeaning.{tree_at}
use Rattle.goal_terms.specs.declared.answers.VarKind.{VarKind}
use Rattle.goal_terms.specs.declared.heads.Node.{Node}
use Rattle.goal_terms.specs.declared.heads.Node.TheVariants as nodes
use Rattle.goal_terms.specs.declared.heads.Variable.{Variable}
use Rattle.goal_interner.specs.declared.term_nodes.TermId.{TermId}
use Rattle.goal_infer.specs.Inference.{Inference, GoesBack}
use Rattle.goal_infer.specs.Replacement.{number_of, kind_of_variable, replaced, takes, OfKinds}
use Rattle.goal_infer.specs.Resolution.{term_at, unbound_count, resolved, Agrees, IsSolved}
use Rattle.goal_infer.specs.declared.unify.Unified.{Unified}
use Rattle.goal_infer.specs.declared.unify.Unified.TheVariants.{Yes, Undecided, No}

-- the kinds of the variables
abbrev pub kinds_of : Inference → List VarKind
kinds_of s = map (λ x. x.kind) s.variables

-- whether a variable was made, with its kind
unfoldable pub is_made_in : Inference → Variable → Bool
is_made_in s v = is_made (kinds_of s) (number_of v) (kind_of_variable v)

-- a replacement makes two terms the same
unfoldable pub MakesSame : List Tree → TermId → TermId → (Variable → Tree) → Type 0
MakesSame T l r ρ = replaced ρ (term_at T l) ≡ replaced ρ (term_at T r)

-- a term isn't just the variable
abbrev pub IsOther : List Tree → Variable → TermId → Type 0
IsOther T v id = term_at T id ≢ variable v

-- a replacement makes a variable the same as a term
abbrev pub Becomes : List Tree → Variable → TermId → (Variable → Tree) → Type 0
Becomes T v id ρ = ρ v ≡ replaced ρ (term_at T id)

-- the two sides of an equation
pub record Sides (A : Type 0) : Type 0 where
  pub left : A
  pub right : A

abbrev pub sides : {A : Type 0} → A → A → Sides A
sides l r = record { left = l; right = r }

-- what an answer says: which replacements that agree with the state before do what is asked for
unfoldable pub IsUnified : List Tree → Inference → Inference → ((Variable → Tree) → Type 0) → Unified → Type 0
IsUnified T before after Asked Yes = (ρ : Variable → Tree) → Agrees T after ρ ↔ (Agrees T before ρ × Asked ρ)
IsUnified T before after Asked Undecided = (ρ : Variable → Tree) → Agrees T before ρ → Asked ρ → Agrees T after ρ
IsUnified T before after Asked No = (ρ : Variable → Tree) → OfKinds ρ → Agrees T before ρ → Asked ρ → ⊥

-- nothing happened, or a variable was bound
abbrev pub IsLater : Inference → Inference → Type 0
IsLater before after = (after ≡ before) ⊎ (unbound_count after.variables < unbound_count before.variables)

-- what unification may do to a state
pub record Advances (T : List Tree) (before after : Inference) : Type 0 where
  pub goes_back : GoesBack before after
  pub solved : IsSolved T after
  pub kinds : kinds_of after ≡ kinds_of before
  pub later : IsLater before after

-- a constructor
abbrev pub IsHead : Node → Type 0
IsHead (nodes.Head h) = Unit {0}
IsHead (nodes.Alias k) = ⊥
IsHead (nodes.Variable v) = ⊥

-- two terms have one constructor, and nothing happened
pub record HaveOneHead (T : List Tree) (before after : Inference) (l r : TermId) : Type 0 where
  pub unchanged : after ≡ before
  pub head : IsHead (node_of (tree_at T l))
  pub same : top_of (tree_at T l) ≡ top_of (tree_at T r)

-- what the tops of two terms say: an answer, or that the parts decide
abbrev pub TopsSay : List Tree → Inference → Inference → TermId → TermId → Option Unified → Type 0
TopsSay T before after l r (Some u) = IsUnified T before after (MakesSame T l r) u
TopsSay T before after l r None = HaveOneHead T before after l r

-- the variable at the first node, if it may stand for what has the second at its top
abbrev pub taker : Node → Node → Option Variable
taker (nodes.Head h) m = None
taker (nodes.Alias k) m = None
taker (nodes.Variable v) m = if takes v m then Some v else None

-- whether a node is an alias
abbrev pub is_alias : Node → Bool
is_alias (nodes.Head h) = false
is_alias (nodes.Alias k) = true
is_alias (nodes.Variable v) = false

-- whether a node leaves open what stands there: an alias, or a variable that wasn't made
abbrev pub is_open : List VarKind → Node → Bool
is_open ks (nodes.Head h) = false
is_open ks (nodes.Alias k) = true
is_open ks (nodes.Variable v) = not (is_made ks (number_of v) (kind_of_variable v))

-- nothing in a term is left open
unfoldable pub IsDefinite : List VarKind → Tree → Type 0
IsDefinite ks t = some_node (is_open ks) t ≡ false

-- whether nothing in two terms is left open
abbrev pub both_definite : List VarKind → Tree → Tree → Bool
both_definite ks t u = not (some_node (is_open ks) t || some_node (is_open ks) u)

-- whether two terms leave nothing open where they part: at each place that both reach through the same constructors, they are identical, have different constructors or are definite
unfoldable mutual
  pub are_plain : List VarKind → Tree → Tree → Bool
  are_plain ks (node h ts) (node k us) = not (same_node (nodes.Head h) (nodes.Head k)) || rows_are_plain ks ts us
  are_plain ks t u = same_tree t u || both_definite ks t u

  pub rows_are_plain : List VarKind → Trees → Trees → Bool
  rows_are_plain ks (more t ts) (more u us) = are_plain ks t u && rows_are_plain ks ts us
  rows_are_plain ks ts us = true

-- two terms of a table are plain, after all bindings
unfoldable pub ArePlain : List VarKind → List Tree → Inference → TermId → TermId → Type 0
ArePlain ks T s l r = are_plain ks (resolved T s l) (resolved T s r) ≡ true

-- what is definite stays so
unfoldable pub KeepsDefinite : List Tree → Inference → Inference → Type 0
KeepsDefinite T before after =
    (id : TermId) → IsDefinite (kinds_of before) (resolved T before id) → IsDefinite (kinds_of before) (resolved T after id)

-- what is plain stays so
unfoldable pub KeepsPlain : List Tree → Inference → Inference → Type 0
KeepsPlain T before after =
    (l r : TermId) → ArePlain (kinds_of before) T before l r → ArePlain (kinds_of before) T after l r

-- an answer is a decision, and what was definite or plain stays so
abbrev pub IsDecision : List Tree → Inference → Inference → Unified → Type 0
IsDecision T before after u = (u ≢ Undecided) × KeepsDefinite T before after × KeepsPlain T before after

-- the answer for two definite terms is a decision
unfoldable pub IsDecided : List Tree → Inference → Inference → Sides TermId → Unified → Type 0
IsDecided T before after e u =
    IsDefinite (kinds_of before) (resolved T before e.left) → IsDefinite (kinds_of before) (resolved T before e.right) → IsDecision T before after u

-- the answer for two plain terms is a decision
unfoldable pub IsDecidedWherePlain : List Tree → Inference → Inference → Sides TermId → Unified → Type 0
IsDecidedWherePlain T before after e u = ArePlain (kinds_of before) T before e.left e.right → IsDecision T before after u

-- the answer for a variable that was made and a definite term is a decision
abbrev pub BindingDecides : List Tree → Inference → Inference → Variable → TermId → Unified → Type 0
BindingDecides T before after v id u = IsDefinite (kinds_of before) (resolved T before id) → IsTrue (is_made_in before v) → IsDecision T before after u

-- so it is with an answer from their tops
abbrev pub TopsDecide : List Tree → Inference → Inference → TermId → TermId → Option Unified → Type 0
TopsDecide T before after l r (Some u) = IsDecidedWherePlain T before after (sides l r) u
TopsDecide T before after l r None = Unit {0}

-- where two terms are identical already, the answer says so, and nothing happened
unfoldable pub IsIdentified : List Tree → Inference → Inference → Sides TermId → Unified → Type 0
IsIdentified T before after e u = resolved T before e.left ≡ resolved T before e.right → (u ≡ Yes) × (after ≡ before)

-- so it is with an answer from their tops
abbrev pub TopsIdentify : List Tree → Inference → Inference → TermId → TermId → Option Unified → Type 0
TopsIdentify T before after l r (Some u) = IsIdentified T before after (sides l r) u
TopsIdentify T before after l r None = Unit {0}

-- a term that holds no variable
abbrev pub IsClosed : Tree → Type 0
IsClosed t = some_node is_any_infer t ≡ false

-- two terms differ for good: at a place that both reach through the same constructors two constructors differ, or two rows in length
unfoldable mutual
  pub Clash : Tree → Tree → Type 0
  Clash (node h ts) (node k us) = (h ≢ k) ⊎ RowsClash ts us
  Clash t u = ⊥

  pub RowsClash : Trees → Trees → Type 0
  RowsClash none none = ⊥
  RowsClash none (more u us) = Unit {0}
  RowsClash (more t ts) none = Unit {0}
  RowsClash (more t ts) (more u us) = Clash t u ⊎ RowsClash ts us

-- where the answer is no, two terms without variables clash
unfoldable pub IsClashing : List Tree → Inference → TermId → TermId → Unified → Type 0
IsClashing T s l r u = u ≡ No → IsClosed (resolved T s l) → IsClosed (resolved T s r) → Clash (resolved T s l) (resolved T s r)

-- so it is with an answer from their tops
abbrev pub TopsClash : List Tree → Inference → TermId → TermId → Option Unified → Type 0
TopsClash T s l r (Some u) = IsClashing T s l r u
TopsClash T s l r None = Unit {0}

-- for two terms without variables nothing happens, whatever the answer
unfoldable pub IsUntouched : List Tree → Inference → Inference → TermId → TermId → Type 0
IsUntouched T before after l r = IsClosed (resolved T before l) → IsClosed (resolved T before r) → after ≡ before
