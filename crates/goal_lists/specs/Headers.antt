-- Headers of impls, matched with given arguments.
use Rattle.std.specs.Prelude.{◌≡◌, ◌≢◌, ◌⊎◌, ◌==◌, ℕ, suc, Bool, true, false, List, [], ◌∷◌, map, slice_get, Option, Some, None, is_some}
use Rattle.goal_terms.specs.Erased.{erased}
use Rattle.goal_terms.specs.Folding.{instance}
use Rattle.goal_terms.specs.NodeTests.{some_node, some_node_outside_aliases}
use Rattle.goal_terms.specs.Tree.{Tree, Trees, node, alias, variable, none, more, list_of, node_of}
use Rattle.goal_terms.specs.TreeOf.{leaf}
use Rattle.goal_terms.specs.declared.answers.ParamKind.{ParamKind}
use Rattle.goal_terms.specs.declared.answers.ParamKind.TheVariants as kind
use Rattle.goal_terms.specs.declared.heads.Head.{Head}
use Rattle.goal_terms.specs.declared.heads.Head.TheVariants.{TyParam, ConstParam, Lifetime}
use Rattle.goal_terms.specs.declared.heads.Node.{Node}
use Rattle.goal_terms.specs.declared.heads.Node.TheVariants as nodes
use Rattle.goal_terms.specs.declared.terms.Region.TheVariants as regions
use Rattle.goal_lists.specs.Equality.{Unequal}
use Rattle.goal_lists.specs.Level.{Level}
use Rattle.goal_lists.specs.Words.{Either, Pairs, SomePair}

-- a row's term under arguments for its parameters, without lifetimes
abbrev pub under : List Tree → Tree → Tree
under args t = erased (instance args t)

-- the number of the type or const parameter that a constructor is
abbrev pub parameter_of : Head → Option ℕ
parameter_of (TyParam n) = Some n
parameter_of (ConstParam n) = Some n
parameter_of _ = None

-- whether a number is one
abbrev pub is_number : ℕ → Option ℕ → Bool
is_number n None = false
is_number n (Some m) = m == n

-- whether a node is the type or const parameter of a number
unfoldable pub is_parameter : ℕ → Node → Bool
is_parameter n (nodes.Head h) = is_number n (parameter_of h)
is_parameter n (nodes.Alias k) = false
is_parameter n (nodes.Variable v) = false

-- whether a parameter stands in a header outside of aliases, so that it has a first place there
unfoldable pub has_place : ℕ → Tree → Bool
has_place n t = some_node_outside_aliases (is_parameter n) t

-- whether a parameter stands anywhere in a term
unfoldable pub mentions : ℕ → Tree → Bool
mentions n t = some_node (is_parameter n) t

-- a step into a given part below a constructor: into a part of that constructor, or into an alias whose head form has it, one lower
unfoldable pub StepInto : Level → Head → (Trees → Type 0) → (Tree → Type 0) → Tree → Type 0
StepInto L h here below (node k us) = (h ≡ k) × here us
StepInto L h here below (alias k us) = (f : Tree) × L.gives k (list_of us) f × (node_of f ≡ nodes.Head h) × below f
StepInto L h here below (variable v) = ⊥

-- the part that a given term has at the first place of a parameter of a header, from left to right, depth first
unfoldable mutual
  pub Part : Level → ℕ → Tree → Tree → Tree → Type 0
  Part L n (node h ts) g p =
      Either (is_number n (parameter_of h)) (p ≡ g) (StepInto L h (λ us. RowPart L n ts us p) (λ f. L.part n (node h ts) f p) g)
  Part L n (alias k ts) g p = ⊥
  Part L n (variable v) g p = ⊥

  pub RowPart : Level → ℕ → Trees → Trees → Tree → Type 0
  RowPart L n none gs p = ⊥
  RowPart L n (more t ts) none p = ⊥
  RowPart L n (more t ts) (more g gs) p = Either (has_place n t) (Part L n t g p) (RowPart L n ts gs p)

-- a list has the known terms of all parameters of a term
unfoldable pub AllAreKnown : (ℕ → Tree → Type 0) → List Tree → Tree → Type 0
AllAreKnown K s t = (n : ℕ) → mentions n t ≡ true → (u : Tree) × (slice_get s n ≡ Some u) × K n u

-- a parameter, or an alias whose parameters are all known, has an instance that is unequal to the given part
unfoldable pub InstanceUnequal : Level → (ℕ → Tree → Type 0) → Tree → Tree → Type 0
InstanceUnequal L K h g = (s : List Tree) × AllAreKnown K s h × Unequal L (under s h) g

-- a given part differs from a header below a constructor: it has another, or is an alias whose head form is refuted or has another
unfoldable pub StepClashes : Level → Head → (Trees → Type 0) → (Tree → Type 0) → Tree → Type 0
StepClashes L h here below (node k us) = (h ≢ k) ⊎ here us
StepClashes L h here below (alias k us) =
    L.gives_refuted k (list_of us) ⊎ ((f : Tree) × L.gives k (list_of us) f × ((node_of f ≢ nodes.Head h) ⊎ below f))
StepClashes L h here below (variable v) = ⊥

-- a header cannot fit a given term: at some place the constructors differ, or a known instance is unequal
unfoldable mutual
  pub Clash : Level → (ℕ → Tree → Type 0) → Tree → Tree → Type 0
  Clash L K (node h ts) g =
      Either (is_some (parameter_of h)) (InstanceUnequal L K (node h ts) g)
      (StepClashes L h (λ us. RowClash L K ts us) (λ f. L.clash K (node h ts) f) g)
  Clash L K (alias k ts) g = InstanceUnequal L K (alias k ts) g
  Clash L K (variable v) g = ⊥

  pub RowClash : Level → (ℕ → Tree → Type 0) → Trees → Trees → Type 0
  RowClash L K none none = ⊥
  RowClash L K none (more g gs) = Unit {0}
  RowClash L K (more t ts) none = Unit {0}
  RowClash L K (more t ts) (more g gs) = Clash L K t g ⊎ RowClash L K ts gs

-- the part at the first place of a parameter among the arguments of a header
unfoldable pub PartAmong : Level → ℕ → List Tree → List Tree → Tree → Type 0
PartAmong L n [] gs p = ⊥
PartAmong L n (h ∷ hs) [] p = ⊥
PartAmong L n (h ∷ hs) (g ∷ gs) p = Either (has_place n h) (L.part n h g p) (PartAmong L n hs gs p)

-- whether a parameter is a type or a constant
abbrev pub is_term_kind : Option ParamKind → Bool
is_term_kind None = false
is_term_kind (Some kind.Ty) = true
is_term_kind (Some kind.Const) = true
is_term_kind (Some kind.Lifetime) = false

-- a type or const parameter is known: its term is the part at its first place
unfoldable pub Known : Level → List ParamKind → List Tree → List Tree → ℕ → Tree → Type 0
Known L params hs gs n p = (is_term_kind (slice_get params n) ≡ true) × PartAmong L n hs gs p

-- the argument that stands for each lifetime parameter
abbrev pub no_lifetime : Tree
no_lifetime = leaf (Lifetime regions.Erased)

-- the terms of the parameters from a number on: each type or const parameter's is the part at its first place
unfoldable pub PartsFrom : Level → List Tree → List Tree → ℕ → List ParamKind → List Tree → Type 0
PartsFrom L hs gs n [] [] = Unit {0}
PartsFrom L hs gs n [] (a ∷ s) = ⊥
PartsFrom L hs gs n (k ∷ ks) [] = ⊥
PartsFrom L hs gs n (kind.Lifetime ∷ ks) (a ∷ s) = (a ≡ no_lifetime) × PartsFrom L hs gs (suc n) ks s
PartsFrom L hs gs n (kind.Ty ∷ ks) (a ∷ s) = PartAmong L n hs gs a × PartsFrom L hs gs (suc n) ks s
PartsFrom L hs gs n (kind.Const ∷ ks) (a ∷ s) = PartAmong L n hs gs a × PartsFrom L hs gs (suc n) ks s

-- all parameters of a header are known, and a list has their terms
unfoldable pub AllKnown : Level → List ParamKind → List Tree → List Tree → List Tree → Type 0
AllKnown L params hs gs s = PartsFrom L hs gs 0 params s

-- a header fits given arguments under a substitution: the parameters are known, and the header's instance is equal to the arguments
unfoldable pub Fits : Level → List ParamKind → List Tree → List Tree → List Tree → Type 0
Fits L params hs gs s = AllKnown L params hs gs s × Pairs L.equal (map (under s) hs) gs

-- a header cannot fit given arguments
unfoldable pub Clashes : Level → List ParamKind → List Tree → List Tree → Type 0
Clashes L params hs gs = SomePair (L.clash (Known L params hs gs)) hs gs
