-- Which lists ask for no term, and what such a list says.
use Rattle.std.proofs.Common.{◌≡◌, Bool, true, false, List, [], ◌∷◌, ◌++◌, Option, Some, None, if◌then◌else◌}
use Rattle.std.specs.Option.{option_map}
use Rattle.goal_terms.specs.PredicateTrees.{PredicateTree, holds, equals, holds_const}
use Rattle.goal_terms.specs.Tree.{Tree}
use Rattle.goal_terms.specs.declared.answers.GoalSource.{GoalSource}
use Rattle.goal_terms.specs.declared.ids.TraitId.{TraitId}
use Rattle.goal_terms.specs.declared.modes.TypingMode.{TypingMode}
use Rattle.goal_terms.specs.declared.modes.TypingMode.TheVariants as mode
use Rattle.goal_terms.specs.declared.predicates.BoundConstness.{BoundConstness}
use Rattle.goal_tables.specs.Rows.{trait_of}
use Rattle.goal_tables.specs.declared.rows.ImplPolarity.{ImplPolarity}
use Rattle.goal_tables.specs.declared.rows.ImplPolarity.TheVariants as polarity
use Rattle.goal_lists.specs.Builtins.{trait_rule}
use Rattle.goal_lists.specs.Candidates.{Candidate, assumption, implied_bound, by_impl, built_in, error}
use Rattle.goal_lists.specs.ConstRules.{const_rule}
use Rattle.goal_lists.specs.EffectLists.{effect_assumption_list, const_rule_entries, source_of_const_rule, effect_list}
use Rattle.goal_lists.specs.Entries.{Entry, arguments, equal_terms, clause, row_clauses, row_conditions, expected, access, delayed_fault, evaluation, ambiguous, undecided, refused, EntriesHold, ListHolds, ListGives, ListHoldsWith, AsksNoTerm, ListAsksNoTerm, premise_entry, premise_entries}
use Rattle.goal_lists.specs.Level.{Level}
use Rattle.goal_lists.specs.Premises.{Premise, predicate, equation, ConstRule, conditions_as}
use Rattle.goal_lists.specs.Settings.{Setting}
use Rattle.goal_lists.specs.TraitGoals.{any_error}
use Rattle.goal_lists.specs.TraitLists.{is_trait, trait_assumption_list, reserved_list, list_by_polarity, source_of_rule, trait_list}

-- a list behind a test
tested : (b : Bool) (o : Option (List Entry)) → ListAsksNoTerm o → ListAsksNoTerm (if b then o else None)
tested true o h = h
tested false o h = tt

-- premises
premise-asks_none : (g : GoalSource) (p : Premise) (es : List Entry) → AsksNoTerm es → AsksNoTerm (premise_entry g p ∷ es)
unfolding AsksNoTerm
premise-asks_none g (predicate p) es h = (tt, h)
premise-asks_none g (equation t u) es h = (tt, h)

premises-ask_none : (g : GoalSource) (ps : List Premise) (es : List Entry) → AsksNoTerm es → AsksNoTerm (premise_entries g ps ++ es)
premises-ask_none g [] es h = h
premises-ask_none g (p ∷ ps) es h = premise-asks_none g p (premise_entries g ps ++ es) (premises-ask_none g ps es h)

alone-ask_none : (g : GoalSource) (ps : List Premise) → AsksNoTerm (premise_entries g ps)
unfolding AsksNoTerm
alone-ask_none g [] = tt
alone-ask_none g (p ∷ ps) = premise-asks_none g p (premise_entries g ps) (alone-ask_none g ps)

-- an impl
reserved-asks_none : (m : TypingMode) (es : List Entry) → AsksNoTerm es → ListAsksNoTerm (reserved_list m es)
unfolding AsksNoTerm
reserved-asks_none mode.Coherence es h = (tt, h)
reserved-asks_none (mode.Analysis ids) es h = tt
reserved-asks_none (mode.Borrowck ids) es h = tt
reserved-asks_none (mode.PostBorrowckAnalysis ids) es h = tt
reserved-asks_none mode.PostAnalysis es h = tt
reserved-asks_none mode.ErasedNotCoherence es h = tt

polarity-asks_none : (m : TypingMode) (x : ImplPolarity) (es : List Entry) → AsksNoTerm es → ListAsksNoTerm (list_by_polarity m x es)
unfolding list_by_polarity
polarity-asks_none m polarity.Positive es h = h
polarity-asks_none m polarity.Negative es h = tt
polarity-asks_none m polarity.Reservation es h = reserved-asks_none m es h

-- the lists of candidates for trait goals
assumption-asks_none : (i : TraitId) (args : List Tree) (p : PredicateTree) → ListAsksNoTerm (trait_assumption_list i args p)
unfolding trait_assumption_list AsksNoTerm
assumption-asks_none i args (holds j bs) = tested (is_trait j i) (Some (equal_terms bs args ∷ [])) (tt, tt)
assumption-asks_none i args (equals a t) = tt
assumption-asks_none i args (holds_const c j bs) = tt

rule-asks_none : (g : GoalSource) (o : Option (List Premise)) → ListAsksNoTerm (option_map (premise_entries g) o)
rule-asks_none g None = tt
rule-asks_none g (Some ps) = alone-ask_none g ps

pub trait_list-asks_none : (S : Setting) (i : TraitId) (args : List Tree) (c : Candidate) → ListAsksNoTerm (trait_list S i args c)
unfolding trait_list AsksNoTerm
trait_list-asks_none S i args (assumption p) = assumption-asks_none i args p
trait_list-asks_none S i args (implied_bound b cs) = tt
trait_list-asks_none S i args (by_impl r) = polarity-asks_none S.mode r.polarity _ (tt, (tt, tt))
trait_list-asks_none S i args built_in = rule-asks_none (source_of_rule (trait_of S.tables i)) (trait_rule S.tables i args)
trait_list-asks_none S i args error = tested (any_error args) (Some []) tt

-- those of candidates for host effect goals
const_assumption-asks_none : (c : BoundConstness) (i : TraitId) (args : List Tree) (p : PredicateTree) → ListAsksNoTerm (effect_assumption_list c i args p)
unfolding effect_assumption_list AsksNoTerm
const_assumption-asks_none c i args (holds_const b j bs) = tested _ (Some (equal_terms bs args ∷ [])) (tt, tt)
const_assumption-asks_none c i args (holds j bs) = tt
const_assumption-asks_none c i args (equals a t) = tt

const_rule-asks_none : (g : GoalSource) (c : BoundConstness) (o : Option ConstRule) → ListAsksNoTerm (option_map (const_rule_entries g c) o)
const_rule-asks_none g c None = tt
const_rule-asks_none g c (Some r) = premises-ask_none g r.premises (premise_entries g (conditions_as c r.conditions)) (alone-ask_none g (conditions_as c r.conditions))

implied-asks_none : (g : GoalSource) (bs args : List Tree) (ps : List Premise) → AsksNoTerm (equal_terms bs args ∷ premise_entries g ps)
unfolding AsksNoTerm
implied-asks_none g bs args ps = (tt, alone-ask_none g ps)

pub effect_list-asks_none : (S : Setting) (b : BoundConstness) (i : TraitId) (args : List Tree) (c : Candidate) → ListAsksNoTerm (effect_list S b i args c)
unfolding effect_list AsksNoTerm
effect_list-asks_none S b i args (assumption p) = const_assumption-asks_none b i args p
effect_list-asks_none S b i args (implied_bound t cs) = tested (is_trait t.def_id i) (Some _) (implied-asks_none _ t.args args (conditions_as b cs))
effect_list-asks_none S b i args (by_impl r) = tested r.is_const _ (polarity-asks_none S.mode r.polarity _ (tt, (tt, (tt, tt))))
effect_list-asks_none S b i args built_in = const_rule-asks_none (source_of_const_rule S.tables i (trait_of S.tables i)) b (const_rule S.tables i args)
effect_list-asks_none S b i args error = tested (any_error args) (Some []) tt

-- a list that asks for no term holds with each term, or with none
pub said_as : (L : Level) (P Q : Tree → Type 0) (X : Type 0) (named : List (List Tree)) (es : List Entry) → AsksNoTerm es → EntriesHold L P X named es → EntriesHold L Q X named es
unfolding EntriesHold AsksNoTerm
said_as L P Q X named [] a h = h
said_as L P Q X named (arguments x ∷ es) a h = (h.0, h.1, said_as L P Q X (named ++ h.0 ∷ []) es a.1 h.2)
said_as L P Q X named (equal_terms ts us ∷ es) a h = (h.0, said_as L P Q X named es a.1 h.1)
said_as L P Q X named (clause g p ∷ es) a h = (h.0, said_as L P Q X named es a.1 h.1)
said_as L P Q X named (row_clauses cs n ∷ es) a h = (h.0, said_as L P Q X named es a.1 h.1)
said_as L P Q X named (row_conditions c rs n ∷ es) a h = (h.0, said_as L P Q X named es a.1 h.1)
said_as L P Q X named (expected e ∷ es) a h = absurd a.0
said_as L P Q X named (access x ∷ es) a h = said_as L P Q X named es a.1 h
said_as L P Q X named (delayed_fault f ∷ es) a h = said_as L P Q X named es a.1 h
said_as L P Q X named (evaluation ∷ es) a h = said_as L P Q X named es a.1 h
said_as L P Q X named (ambiguous ∷ es) a h = absurd h
said_as L P Q X named (undecided ∷ es) a h = absurd h
said_as L P Q X named (refused ∷ es) a h = absurd h

-- and gives none
unsaid : (L : Level) (P : Tree → Type 0) (named : List (List Tree)) (es : List Entry) → AsksNoTerm es → EntriesHold L P ⊥ named es → ⊥
unfolding EntriesHold AsksNoTerm
unsaid L P named [] a h = h
unsaid L P named (arguments x ∷ es) a h = unsaid L P (named ++ h.0 ∷ []) es a.1 h.2
unsaid L P named (equal_terms ts us ∷ es) a h = unsaid L P named es a.1 h.1
unsaid L P named (clause g p ∷ es) a h = unsaid L P named es a.1 h.1
unsaid L P named (row_clauses cs n ∷ es) a h = unsaid L P named es a.1 h.1
unsaid L P named (row_conditions c rs n ∷ es) a h = unsaid L P named es a.1 h.1
unsaid L P named (expected e ∷ es) a h = a.0
unsaid L P named (access x ∷ es) a h = unsaid L P named es a.1 h
unsaid L P named (delayed_fault f ∷ es) a h = unsaid L P named es a.1 h
unsaid L P named (evaluation ∷ es) a h = unsaid L P named es a.1 h
unsaid L P named (ambiguous ∷ es) a h = h
unsaid L P named (undecided ∷ es) a h = h
unsaid L P named (refused ∷ es) a h = h

pub asks_none-gives : (L : Level) (o : Option (List Entry)) (t : Tree) → ListAsksNoTerm o → ListGives L o t → ⊥
unfolding ListGives
asks_none-gives L None t a h = h
asks_none-gives L (Some es) t a h = unsaid L (λ u. u ≡ t) [] es a h

-- what holds of some term, wherever one is expected, holds of any in a list that asks for none
pub asks_none-with : (L : Level) (o : Option (List Entry)) (t : Tree) → ListAsksNoTerm o → ListHolds L o → ListHoldsWith L o t
unfolding ListHolds ListHoldsWith
asks_none-with L None t a h = h
asks_none-with L (Some es) t a h = said_as L (λ u. Unit {0}) (λ u. u ≡ t) (Unit {0}) [] es a h

-- weaker claims of the expected term, and of a list without one
pub weaker : (L : Level) (P Q : Tree → Type 0) (X Y : Type 0) (named : List (List Tree)) (es : List Entry) → ((u : Tree) → P u → Q u) → (X → Y) → EntriesHold L P X named es → EntriesHold L Q Y named es
unfolding EntriesHold
weaker L P Q X Y named [] f g h = g h
weaker L P Q X Y named (arguments x ∷ es) f g h = (h.0, h.1, weaker L P Q X Y (named ++ h.0 ∷ []) es f g h.2)
weaker L P Q X Y named (equal_terms ts us ∷ es) f g h = (h.0, weaker L P Q X Y named es f g h.1)
weaker L P Q X Y named (clause c p ∷ es) f g h = (h.0, weaker L P Q X Y named es f g h.1)
weaker L P Q X Y named (row_clauses cs n ∷ es) f g h = (h.0, weaker L P Q X Y named es f g h.1)
weaker L P Q X Y named (row_conditions c rs n ∷ es) f g h = (h.0, weaker L P Q X Y named es f g h.1)
weaker L P Q X Y named (expected e ∷ es) f g h = ((h.0.0, h.0.1, f h.0.0 h.0.2), weaker L P Q (Unit {0}) (Unit {0}) named es f (λ x. x) h.1)
weaker L P Q X Y named (access x ∷ es) f g h = weaker L P Q X Y named es f g h
weaker L P Q X Y named (delayed_fault x ∷ es) f g h = weaker L P Q X Y named es f g h
weaker L P Q X Y named (evaluation ∷ es) f g h = weaker L P Q X Y named es f g h
weaker L P Q X Y named (ambiguous ∷ es) f g h = h
weaker L P Q X Y named (undecided ∷ es) f g h = h
weaker L P Q X Y named (refused ∷ es) f g h = h

-- a list that gives a term holds, and holds with it
pub gives-holds : (L : Level) (o : Option (List Entry)) (t : Tree) → ListGives L o t → ListHolds L o
unfolding ListGives ListHolds
gives-holds L None t h = h
gives-holds L (Some es) t h = weaker L (λ u. u ≡ t) (λ u. Unit {0}) ⊥ (Unit {0}) [] es (λ u e. tt) (λ x. absurd x) h

pub gives-with : (L : Level) (o : Option (List Entry)) (t : Tree) → ListGives L o t → ListHoldsWith L o t
unfolding ListGives ListHoldsWith
gives-with L None t h = h
gives-with L (Some es) t h = weaker L (λ u. u ≡ t) (λ u. u ≡ t) ⊥ (Unit {0}) [] es (λ u e. e) (λ x. absurd x) h
