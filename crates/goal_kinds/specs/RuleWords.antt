-- Words on the entries of rules.
use Rattle.std.specs.Prelude.{◌≡◌, ◌↔◌, List, [], ◌∷◌, Option}
use Rattle.std.specs.Option.{option_map, option_and_then}
use Rattle.goal_terms.specs.Tree.{Tree}
use Rattle.goal_terms.specs.TreeOf.{trees_of, tree_of_term}
use Rattle.goal_terms.specs.declared.answers.DelayedFault.TheVariants.{AutoTrait}
use Rattle.goal_terms.specs.declared.answers.OpaqueTypeKey.{OpaqueTypeKey}
use Rattle.goal_terms.specs.declared.ids.OpaqueId.{OpaqueId}
use Rattle.goal_terms.specs.declared.ids.TraitId.{TraitId}
use Rattle.goal_terms.specs.declared.terms.AliasTerm.{AliasTerm}
use Rattle.goal_terms.specs.declared.terms.AliasTermKind.TheVariants.{OpaqueTy}
use Rattle.goal_terms.specs.declared.terms.Term.{Term}
use Rattle.goal_tables.specs.Rows.{item_of, trait_of}
use Rattle.goal_tables.specs.declared.rows.Tables.{Tables}
use Rattle.goal_lists.specs.ImplTerms.{Projection}
use Rattle.goal_lists.specs.Level.{Level}
use Rattle.goal_lists.specs.Projections.{projected_item, asked}
use Rattle.goal_kinds.specs.Rules.{RuleGives, RuleRefuted}
use Rattle.goal_lists.specs.RowWords.{given}
use Rattle.goal_lists.specs.Settings.{Setting}
use Rattle.goal_kinds.specs.declared.rules.assoc_items.AssocItem.{AssocItem}
use Rattle.goal_lists.specs.declared.lists.FirstUse.{FirstUse}
use Rattle.goal_kinds.specs.declared.rules.Rule.{Rule}
use Rattle.goal_kinds.specs.declared.rules.RuleEntry.{RuleEntry}
use Rattle.goal_kinds.specs.declared.rules.RuleEntry.TheVariants as entry

-- a rule says what two claims do: it gives the terms of which the first holds, and is refuted where the second holds
pub record RuleMeans (S : Setting) (L : Level) (r : Rule) (P : Tree → Type 0) (R : Type 0) : Type 0 where
  pub gives : (u : Tree) → RuleGives S L r u ↔ P u
  pub refuted : RuleRefuted S L r ↔ R

-- the expected term of an entry that has one is such a one
abbrev pub TermIsFor : (Tree → Type 0) → RuleEntry → Type 0
TermIsFor P (entry.Term v e) = P (tree_of_term v)
TermIsFor P (entry.HiddenType v k f) = P (tree_of_term v)
TermIsFor P _ = Unit {0}

-- each entry of a list that has an expected term has such a one
unfoldable pub TermsAreFor : (Tree → Type 0) → List RuleEntry → Type 0
TermsAreFor P [] = Unit {0}
TermsAreFor P (e ∷ es) = TermIsFor P e × TermsAreFor P es

-- the only entry of a list is that an expected term is the hidden type of an opaque type, by its arguments
pub record IsHiddenEntry (v : Tree) (i : OpaqueId) (ts : List Tree) (f : FirstUse) (es : List RuleEntry) : Type 0 where
  pub expected : Term
  pub key : OpaqueTypeKey
  pub is : es ≡ entry.HiddenType expected key f ∷ []
  pub same_term : tree_of_term expected ≡ v
  pub same_type : key.def_id ≡ i
  pub same_args : trees_of key.args.items ≡ ts

-- so it is of the opaque type that an alias is
abbrev pub DefinesHidden : Tree → AliasTerm → FirstUse → List RuleEntry → Type 0
DefinesHidden v a f es = (i : OpaqueId) × (a.kind ≡ OpaqueTy i) × IsHiddenEntry v i (trees_of a.args.items) f es

-- the projection that an alias asks for, if its item and its trait have rows
abbrev pub projection_in : Tables → AliasTerm → Option Projection
projection_in t a =
    option_and_then (λ i. option_and_then (λ q. option_map (λ r. asked q r (given a.args)) (trait_of t q.trait_id)) (item_of t i))
    (projected_item a.kind)

-- the projection that an alias asks for, by its item
abbrev pub asked_by : AssocItem → AliasTerm → Projection
asked_by x a = record { item = x.row.now; trait_params = x.trait_params; args = given a.args }

-- the entries of an auto trait's rule: it records the fault, and doesn't stand
abbrev pub auto_trait_entries : TraitId → List RuleEntry
auto_trait_entries i = entry.DelayedFault (AutoTrait i) ∷ entry.Refused ∷ []
