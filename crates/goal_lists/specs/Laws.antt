-- What holds of all levels: the laws of the definitions.
use Rattle.std.specs.Prelude.{◌≡◌, ℕ, Bool, true, false, List, [], slice_get, Some, Vec}
use Rattle.std.specs.Global.{Global}
use Rattle.std.specs.List.{list_any}
use Rattle.goal_terms.specs.Erased.{erased}
use Rattle.goal_terms.specs.Tree.{Tree, Trees, node, parts_of}
use Rattle.goal_terms.specs.declared.answers.TraitGoalProvenVia.{TraitGoalProvenVia}
use Rattle.goal_terms.specs.declared.heads.Head.{Head}
use Rattle.goal_terms.specs.declared.ids.ImplId.{ImplId}
use Rattle.goal_terms.specs.declared.ids.ItemId.{ItemId}
use Rattle.goal_terms.specs.declared.ids.DefId.{DefId}
use Rattle.goal_terms.specs.declared.ids.OpaqueId.{OpaqueId}
use Rattle.goal_terms.specs.declared.ids.TraitId.{TraitId}
use Rattle.goal_terms.specs.declared.modes.TypingMode.{TypingMode}
use Rattle.goal_terms.specs.declared.predicates.BoundConstness.{BoundConstness}
use Rattle.goal_terms.specs.declared.terms.AliasTermKind.{AliasTermKind}
use Rattle.goal_tables.specs.Rows.{impl_of, opaque_of, source_of}
use Rattle.goal_tables.specs.declared.rows.ImplRow.{ImplRow}
use Rattle.goal_tables.specs.declared.rows.OpaqueRow.{OpaqueRow}
use Rattle.goal_tables.specs.declared.rows.Source.{Source}
use Rattle.goal_tables.specs.declared.rows.Source.TheVariants as source
use Rattle.goal_tables.specs.declared.rows.SourceRow.{SourceRow}
use Rattle.goal_tables.specs.declared.rows.Tables.{Tables}
use Rattle.goal_lists.specs.ConstGoals.{satisfies}
use Rattle.goal_lists.specs.Headers.{under}
use Rattle.goal_lists.specs.Level.{Level}
use Rattle.goal_lists.specs.Settings.{Setting, is_coherence, leaves_open, takes_checked, reveals, takes_defaults, hides_defaults}
use Rattle.goal_lists.specs.Words.{Exists, Pairs}

-- all that one level proves, another proves as well
pub record IsWithin (L M : Level) : Type 1 where
  pub gives : (k : AliasTermKind) (ts : List Tree) (u : Tree) → L.gives k ts u → M.gives k ts u
  pub gives_refuted : (k : AliasTermKind) (ts : List Tree) → L.gives_refuted k ts → M.gives_refuted k ts
  pub through : (c : TraitGoalProvenVia) (i : TraitId) (ts : List Tree) → L.through c i ts → M.through c i ts
  pub trait_refuted : (i : TraitId) (ts : List Tree) → L.trait_refuted i ts → M.trait_refuted i ts
  pub const_holds : (c : BoundConstness) (i : TraitId) (ts : List Tree) → L.const_holds c i ts → M.const_holds c i ts
  pub const_refuted : (c : BoundConstness) (i : TraitId) (ts : List Tree) → L.const_refuted c i ts → M.const_refuted c i ts
  pub equation_holds : (a t : Tree) → L.equation_holds a t → M.equation_holds a t
  pub equation_refuted : (a t : Tree) → L.equation_refuted a t → M.equation_refuted a t
  pub equal : (t u : Tree) → L.equal t u → M.equal t u
  pub unequal : (t u : Tree) → L.unequal t u → M.unequal t u
  pub part : (n : ℕ) (h g p : Tree) → L.part n h g p → M.part n h g p
  pub clash : (K N : ℕ → Tree → Type 0) → ((n : ℕ) (u : Tree) → K n u → N n u) → (h g : Tree) → L.clash K h g → M.clash N h g

-- nothing is proved both ways at a level: one term for an alias, one class for a trait goal, one part at a place, no equal and unequal terms, no header that fits and clashes
pub record IsConsistent (L : Level) : Type 1 where
  pub one_term : (k : AliasTermKind) (ts : List Tree) (t u : Tree) → L.gives k ts t → L.gives k ts u → t ≡ u
  pub no_term_refuted : (k : AliasTermKind) (ts : List Tree) (t : Tree) → L.gives k ts t → L.gives_refuted k ts → ⊥
  pub one_class : (c d : TraitGoalProvenVia) (i : TraitId) (ts : List Tree) → L.through c i ts → L.through d i ts → c ≡ d
  pub no_trait_refuted : (c : TraitGoalProvenVia) (i : TraitId) (ts : List Tree) → L.through c i ts → L.trait_refuted i ts → ⊥
  pub no_const_refuted : (c d : BoundConstness) (i : TraitId) (ts : List Tree) → satisfies c d ≡ true → L.const_holds c i ts → L.const_refuted d i ts → ⊥
  pub no_equation_refuted : (a t : Tree) → L.equation_holds a t → L.equation_refuted a t → ⊥
  pub no_equal_unequal : (t u : Tree) → L.equal t u → L.unequal t u → ⊥
  pub one_part : (n : ℕ) (h g p q : Tree) → L.part n h g p → L.part n h g q → p ≡ q
  pub no_fit_clash :
      (K : ℕ → Tree → Type 0) (s : List Tree) → ((n : ℕ) (u : Tree) → K n u → slice_get s n ≡ Some u)
      → (h g : Tree) → L.equal (under s (erased h)) g → L.clash K (erased h) g → ⊥
  -- what makes terms of one constructor equal
  pub equal_parts : (h : Head) (ts us : Trees) → Pairs L.equal (parts_of (node h ts)) (parts_of (node h us)) → L.equal (node h ts) (node h us)

-- a row stands in a list
abbrev pub IsAmong : ImplRow → List ImplRow → Type 0
IsAmong r rows = Exists (λ q. q ≡ r) rows

-- a setting with other rows of impls and another mode
abbrev pub with_impls_and_mode : Setting → Vec ImplRow Global → TypingMode → Setting
with_impls_and_mode S v m = record { tables = record S.tables { impls = v }; mode = m; env = S.env }

-- the other impls are the same in another order, and the other mode says the same of each row
pub record IsAlike (S : Setting) (v : Vec ImplRow Global) (m : TypingMode) : Type 0 where
  pub among : (r : ImplRow) → IsAmong r S.tables.impls.items → IsAmong r v.items
  pub among_back : (r : ImplRow) → IsAmong r v.items → IsAmong r S.tables.impls.items
  pub same_impl : (i : ImplId) → impl_of (record S.tables { impls = v }) i ≡ impl_of S.tables i
  pub same_coherence : is_coherence m ≡ is_coherence S.mode
  pub same_opens : (i : OpaqueId) (r : OpaqueRow) → opaque_of S.tables i ≡ Some r → leaves_open m r ≡ leaves_open S.mode r
  pub same_checked : (i : OpaqueId) (r : OpaqueRow) → opaque_of S.tables i ≡ Some r → takes_checked m r ≡ takes_checked S.mode r
  pub same_reveals : (i : OpaqueId) (r : OpaqueRow) → opaque_of S.tables i ≡ Some r → reveals m r ≡ reveals S.mode r
  pub same_defaults :
      (i : ImplId) (j : ItemId) (r : SourceRow) (d : DefId)
      → source_of S.tables i j ≡ Some r → r.source ≡ source.Def d true → takes_defaults m ≡ takes_defaults S.mode
  pub same_hidden_defaults :
      (i : ImplId) (j : ItemId) (r : SourceRow) (d : DefId)
      → source_of S.tables i j ≡ Some r → r.source ≡ source.Def d true → hides_defaults m ≡ hides_defaults S.mode

-- two lists have the same rows of impls, in any order
abbrev pub HaveSameImpls : List ImplRow → List ImplRow → Type 0
HaveSameImpls rows others = ((r : ImplRow) → IsAmong r rows → IsAmong r others) × ((r : ImplRow) → IsAmong r others → IsAmong r rows)

-- whether a source is a default
abbrev pub is_default_source : Source → Bool
is_default_source (source.Def d is_default) = is_default
is_default_source (source.Broken n) = false

-- tables without opaque types and default sources
abbrev pub ReadsNoMode : Tables → Type 0
ReadsNoMode t = (t.opaque_types.items ≡ []) × (list_any (λ r. is_default_source r.source) t.sources.items ≡ false)
