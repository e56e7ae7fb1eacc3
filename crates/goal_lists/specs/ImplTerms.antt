-- The term that an impl has for an item of its trait.
use Rattle.std.specs.Prelude.{ℕ, ◌≡◌, ◌⊎◌, ◌==◌, Bool, true, false, ◌&&◌, not, List, ◌++◌, map, drop, take, Option, Some, None, if◌then◌else◌}
use Rattle.goal_terms.specs.Tree.{Tree}
use Rattle.goal_terms.specs.TreeOf.{leaf, tree_of_term}
use Rattle.goal_terms.specs.declared.heads.Head.TheVariants.{TyError, ConstError}
use Rattle.goal_terms.specs.declared.modes.TypingMode.{TypingMode}
use Rattle.goal_tables.specs.Rows.{impl_of, source_of, definition_of}
use Rattle.goal_tables.specs.declared.rows.Container.{Container}
use Rattle.goal_tables.specs.declared.rows.Container.TheVariants as container
use Rattle.goal_tables.specs.declared.rows.DefRow.{DefRow}
use Rattle.goal_tables.specs.declared.rows.DefValue.{DefValue}
use Rattle.goal_tables.specs.declared.rows.DefValue.TheVariants as value
use Rattle.goal_tables.specs.declared.rows.ImplRow.{ImplRow}
use Rattle.goal_tables.specs.declared.rows.ItemRow.{ItemRow}
use Rattle.goal_tables.specs.declared.rows.Source.{Source}
use Rattle.goal_tables.specs.declared.rows.Source.TheVariants as source
use Rattle.goal_tables.specs.declared.rows.SourceRow.{SourceRow}
use Rattle.goal_lists.specs.Headers.{under, AllKnown, Fits, Clashes}
use Rattle.goal_lists.specs.Level.{Level, HasHeadForm, HeadFormRefuted}
use Rattle.goal_lists.specs.Premises.{Premise, PremisesHold, PremisesRefuted, clauses_under}
use Rattle.goal_lists.specs.Settings.{Setting, is_coherence, takes_defaults, hides_defaults}
use Rattle.goal_lists.specs.TraitGoals.{ImplHoldsUnder, ImplRefuted, header_of}
use Rattle.goal_lists.specs.Words.{OfRow}

-- what an impl says of an item: an error, the alias itself, a value of a definition that stands somewhere, a constant that would have to be evaluated, or nothing
pub data Said : Type 0 where
  an_error : ℕ → Said
  the_alias : Said
  a_value : Container → Tree → Said
  evaluated : Container → Said
  not_said : Said

-- the alias stays as it is, but where that is to be left open
abbrev pub the_alias_unless : Bool → Said
the_alias_unless is_open = if is_open then not_said else the_alias

-- by a definition's value; a value is missing for good only in an impl that isn't guaranteed to be unsized, and coherence leaves open what it is in such a one
abbrev pub said_by_value : TypingMode → ImplRow → DefRow → DefValue → Said
said_by_value m r d value.Missing = if r.guaranteed_unsized then the_alias_unless (is_coherence m) else an_error d.id.0
said_by_value m r d (value.Term e) = a_value d.container (tree_of_term e)
said_by_value m r d value.Evaluated = evaluated d.container

abbrev pub said_by_definition : TypingMode → ImplRow → Option DefRow → Said
said_by_definition m r None = not_said
said_by_definition m r (Some d) = said_by_value m r d d.value

-- by a source; a default that the mode doesn't take leaves the alias as it is, or is left open
abbrev pub said_by_source : Setting → ImplRow → Source → Said
said_by_source S r (source.Broken n) = an_error n
said_by_source S r (source.Def d is_default) =
    if is_default && not (takes_defaults S.mode) then the_alias_unless (hides_defaults S.mode) else said_by_definition S.mode r (definition_of S.tables d)

abbrev pub said_by_row : Setting → ImplRow → Option SourceRow → Said
said_by_row S r None = not_said
said_by_row S r (Some q) = said_by_source S r q.source

-- what an impl says of an item
unfoldable pub said : Setting → ImplRow → ItemRow → Said
said S r item = said_by_row S r (source_of S.tables r.id item.id)

-- a projection as it is asked: its item, how many arguments are the trait's, and all arguments, the self type being a head form
pub record Projection : Type 0 where
  pub item : ItemRow
  pub trait_params : ℕ
  pub args : List Tree

-- the trait's arguments of a projection, and the item's own
abbrev pub trait_args : Projection → List Tree
trait_args p = take p.trait_params p.args

abbrev pub own_args : Projection → List Tree
own_args p = drop p.trait_params p.args

-- the error of a number, of the item's sort
abbrev pub error_term : Bool → ℕ → Tree
error_term true n = leaf (ConstError n)
error_term false n = leaf (TyError n)

-- an impl's header, under its substitution
abbrev pub header_under : ImplRow → List Tree → List Tree
header_under r s = map (under s) (header_of r)

-- another impl's arguments for the first impl's header, by that it fits and its where clauses hold, or by that its parameters are known
unfoldable pub OtherImplHolds : Level → List Tree → List Tree → List Tree → ImplRow → Type 0
OtherImplHolds L header own args q =
    (s : List Tree)
    × Fits L q.params.items (header_of q) header s
    × PremisesHold L (clauses_under s q.predicates.items)
    × (args ≡ s ++ own)

unfoldable pub OtherImplKnown : Level → List Tree → List Tree → List Tree → ImplRow → Type 0
OtherImplKnown L header own args q = (s : List Tree) × AllKnown L q.params.items (header_of q) header s × (args ≡ s ++ own)

unfoldable pub OtherImplRefuted : Level → List Tree → ImplRow → Type 0
OtherImplRefuted L header q =
    Clashes L q.params.items (header_of q) header
    ⊎ ((s : List Tree) × AllKnown L q.params.items (header_of q) header s × PremisesRefuted L (clauses_under s q.predicates.items))

-- whose arguments a definition takes: the projection's, the impl's, or those of another impl
pub data Taken : Type 0 where
  from_projection : Taken
  from_impl : Taken
  from_other : Option ImplRow → Taken

-- by where the definition stands
unfoldable pub taken : Setting → ImplRow → Container → Taken
taken S r (container.Trait i) = from_projection
taken S r (container.Impl i) = if i.0 == r.id.0 then from_impl else from_other (impl_of S.tables i)

-- the arguments for a definition, an impl holding under a substitution; another impl's where clauses hold, too
unfoldable pub Translated : Level → ImplRow → List Tree → Projection → Taken → List Tree → Type 0
Translated L r s p from_projection args = args ≡ p.args
Translated L r s p from_impl args = args ≡ s ++ own_args p
Translated L r s p (from_other q) args = OfRow q (OtherImplHolds L (header_under r s) (own_args p) args)

-- those arguments, as far as another impl's parameters are known
unfoldable pub KnownTranslated : Level → ImplRow → List Tree → Projection → Taken → List Tree → Type 0
KnownTranslated L r s p from_projection args = args ≡ p.args
KnownTranslated L r s p from_impl args = args ≡ s ++ own_args p
KnownTranslated L r s p (from_other q) args = OfRow q (OtherImplKnown L (header_under r s) (own_args p) args)

-- another impl has no arguments for the first one's header
unfoldable pub TranslationRefuted : Level → ImplRow → List Tree → Taken → Type 0
TranslationRefuted L r s from_projection = ⊥
TranslationRefuted L r s from_impl = ⊥
TranslationRefuted L r s (from_other q) = OfRow q (OtherImplRefuted L (header_under r s))

-- what an impl says of an item gives a term
unfoldable pub SaidGives : Setting → Level → ImplRow → List Tree → Projection → Tree → Said → Tree → Type 0
SaidGives S L r s p itself (an_error n) u = u ≡ error_term p.item.is_const n
SaidGives S L r s p itself the_alias u = u ≡ itself
SaidGives S L r s p itself (a_value c v) u = (args : List Tree) × Translated L r s p (taken S r c) args × HasHeadForm L (under args v) u
SaidGives S L r s p itself (evaluated c) u = ⊥
SaidGives S L r s p itself not_said u = ⊥

-- it gives none: its definition has no arguments, or its value no head form
unfoldable pub SaidRefuted : Setting → Level → ImplRow → List Tree → Projection → Said → Type 0
SaidRefuted S L r s p (an_error n) = ⊥
SaidRefuted S L r s p the_alias = ⊥
SaidRefuted S L r s p (a_value c v) =
    TranslationRefuted L r s (taken S r c)
    ⊎ ((args : List Tree) × KnownTranslated L r s p (taken S r c) args × HeadFormRefuted L (under args v))
SaidRefuted S L r s p (evaluated c) = TranslationRefuted L r s (taken S r c)
SaidRefuted S L r s p not_said = ⊥

-- an item's own where clauses, for a projection's arguments
abbrev pub own_clauses : Projection → List Premise
own_clauses p = clauses_under p.args p.item.own_predicates.items

-- an impl gives a projection's term: it holds, the item's own where clauses do, and what it says gives the term
unfoldable pub ImplGives : Setting → Level → Projection → Tree → ImplRow → Tree → Type 0
ImplGives S L p itself r u =
    (s : List Tree)
    × ImplHoldsUnder L r (trait_args p) s
    × PremisesHold L (own_clauses p)
    × SaidGives S L r s p itself (said S r p.item) u

-- an impl gives no term: it cannot hold; or its parameters are known, and an own where clause or what it says is refuted
unfoldable pub ImplTermRefuted : Setting → Level → Projection → ImplRow → Type 0
ImplTermRefuted S L p r =
    ImplRefuted S.mode L (trait_args p) r
    ⊎ ((s : List Tree)
    × AllKnown L r.params.items (header_of r) (trait_args p) s
    × (PremisesRefuted L (own_clauses p) ⊎ SaidRefuted S L r s p (said S r p.item)))
