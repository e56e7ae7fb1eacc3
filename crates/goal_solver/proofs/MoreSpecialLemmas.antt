-- What the impls that are more special than that of a rule make of its answer.
use Rattle.std.proofs.Common.{◌≡◌, ℕ, Bool, true, false, ◌+◌, ◌<◌, ◌≤◌, List, [], ◌∷◌, ◌++◌, length, map, take, get_or, Option, Some, None, refl, sym, ap, ◌∙◌, subst}
use Rattle.std.specs.Prelude.{IfSome, slice_get}
use Rattle.std.proofs.lemmas.List.{take_all}
use Rattle.goal_terms.specs.Erased.{erased}
use Rattle.goal_interner.specs.TableMeaning.{Keeps}
use Rattle.goal_terms.specs.TreeOf.{trees_of}
use Rattle.goal_terms.specs.declared.answers.Certainty.TheVariants as certainty
use Rattle.goal_terms.specs.declared.answers.Response.{Response}
use Rattle.goal_terms.specs.declared.ids.ImplId.{ImplId}
use Rattle.goal_terms.specs.declared.modes.TypingMode.{TypingMode}
use Rattle.goal_terms.specs.declared.predicates.Clause.{Clause}
use Rattle.goal_terms.specs.declared.predicates.TraitRef.{TraitRef}
use Rattle.goal_terms.specs.declared.terms.GenericArg.{GenericArg}
use Rattle.goal_tables.specs.Indexed.{AreMoreSpecial}
use Rattle.goal_tables.specs.Rows.{impl_of}
use Rattle.goal_tables.specs.declared.rows.ImplRow.{ImplRow}
use Rattle.goal_tables.specs.declared.rows.Tables.{Tables}
use Rattle.goal_infer.specs.Resolution.{IsSolved}
use Rattle.goal_lists.specs.Answers.{setting_of}
use Rattle.goal_kinds.specs.CandidateRules.{refuses_impl}
use Rattle.goal_lists.specs.Candidates.{by_impl}
use Rattle.goal_lists.specs.Joined.{one_of}
use Rattle.goal_kinds.specs.RuleLists.{IsListed, list_then}
use Rattle.goal_lists.specs.TraitLists.{trait_list}
use Rattle.goal_kinds.specs.declared.faults.Fault.TheVariants as fault
use Rattle.goal_lists.specs.declared.outcomes.Outcome.{Outcome}
use Rattle.goal_lists.specs.declared.outcomes.Outcome.TheVariants as outcome
use Rattle.goal_kinds.specs.declared.rules.Rule.{Rule}
use Rattle.goal_kinds.specs.declared.rules.RuleEntry.{RuleEntry}
use Rattle.goal_solver.specs.Binding.{IsApplicable}
use Rattle.goal_solver.specs.GoingBack.{restored}
use Rattle.goal_solver.specs.MergedRules.{RunsTo}
use Rattle.goal_solver.specs.MoreSpecial.{RunsAlone, IsTraitRule, AsksImpl, AsksEach, AsksMoreSpecial, answer_beside, matched_impl}
use Rattle.goal_solver.specs.State.{State}
use Rattle.goal_solver.proofs.LaterLemmas.{applies-later}
use Rattle.goal_kinds.proofs.ClassRuleLemmas.{take-more}

-- joining outcomes
one_of-refuted : (a : Outcome) → one_of a outcome.Refuted ≡ a
one_of-refuted outcome.Holds = refl
one_of-refuted outcome.Refuted = refl
one_of-refuted outcome.Undecided = refl

one_of-through : (a b c : Outcome) → one_of (one_of a b) c ≡ one_of a (one_of b c)
one_of-through outcome.Holds b c = refl
one_of-through outcome.Refuted b c = refl
one_of-through outcome.Undecided outcome.Holds c = refl
one_of-through outcome.Undecided outcome.Refuted c = refl
one_of-through outcome.Undecided outcome.Undecided outcome.Holds = refl
one_of-through outcome.Undecided outcome.Undecided outcome.Refuted = refl
one_of-through outcome.Undecided outcome.Undecided outcome.Undecided = refl

-- no impl is asked
pub asks-none : (t : Tables) (env : List Clause) (args : List GenericArg) (s : State) → AsksEach t env args [] s outcome.Refuted s
unfolding AsksEach
asks-none t env args s = (refl, refl)

-- one more is
asks-more : (t : Tables) (env : List Clause) (args : List GenericArg) (ps : List ℕ) (p : ℕ) (i : ImplRow) (s z u : State) (a b : Outcome) →
    AsksEach t env args ps s a z → slice_get t.impls.items p ≡ Some i → AsksImpl env args i z b u → AsksEach t env args (ps ++ p ∷ []) s (one_of a b) u
unfolding AsksEach
asks-more t env args [] p i s z u a b h at step =
    (i, u, b, outcome.Refuted, at, subst (λ (x : State). AsksImpl env args i x b u) h.0 step, (refl, refl), ap (λ x. one_of x b) h.1 ∙ sym (one_of-refuted b))
asks-more t env args (x ∷ ps) p i s z u a b h at step =
    let rest = asks-more t env args ps p i h.1 z u h.3 b h.6 at step in
    (h.0, h.1, h.2, one_of h.3 b, h.4, h.5, rest, ap (λ y. one_of y b) h.7 ∙ one_of-through h.2 h.3 b)

pub asked-next : (t : Tables) (env : List Clause) (args : List GenericArg) (places : List ℕ) (k : ℕ) (i : ImplRow) (s z u : State) (a b : Outcome) →
    k < length places → AsksEach t env args (take k places) s a z → slice_get t.impls.items (get_or places k 0) ≡ Some i → AsksImpl env args i z b u →
    AsksEach t env args (take (k + 1) places) s (one_of a b) u
asked-next t env args places k i s z u a b l h at step =
    subst (λ xs. AsksEach t env args xs s (one_of a b) u) (sym (take-more places k 0 l)) (asks-more t env args (take k places) (get_or places k 0) i s z u a b h at step)

-- all that are more special are
pub asked-all : (t : Tables) (env : List Clause) (args : List GenericArg) (i : ImplId) (places : List ℕ) (k : ℕ) (s u : State) (o : Outcome) → t ≡ s.tables → length places ≤ k →
    ((r : ImplRow) → impl_of t i ≡ Some r → AreMoreSpecial t r places) → AsksEach t env args (take k places) s o u → AsksMoreSpecial env (Some (i, args)) s o u
asked-all t env args i places k s u o e l listed h = (
  places,
  subst (λ (x : Tables). (r : ImplRow) → impl_of x i ≡ Some r → AreMoreSpecial x r places) e listed,
  subst (λ (x : Tables). AsksEach x env args places s o u) e (subst (λ xs. AsksEach t env args xs s o u) (take_all k places l) h),
)

-- the rule of an impl for its own trait, by copies of the arguments
pub rule-listed : (x t : Tables) (m : TypingMode) (args copies : List GenericArg) (i : ImplRow) (r : Rule) → x ≡ t → trees_of copies ≡ trees_of args →
    (impl_of x i.id ≡ Some i → IsListed x r (list_then certainty.Yes (trait_list (setting_of x m []) i.trait_id (map erased (trees_of copies)) (by_impl i)))) →
    IsTraitRule t m args i (Some r)
rule-listed x t m args copies i r e same h =
    subst (λ (y : Tables). IsTraitRule y m args i (Some r)) e
    (λ own. subst (λ ts. IsListed x r (list_then certainty.Yes (trait_list (setting_of x m []) i.trait_id (map erased ts) (by_impl i)))) same (h own))

-- without one, the impl is refused at once
refused-at_once : (b : Bool) → (b ≡ false → fault.NoSolution ≡ fault.OutOfMemory) → b ≡ true
refused-at_once true h = refl
refused-at_once false h = let e : fault.NoSolution ≡ fault.OutOfMemory = h refl in absurd (cc)

pub rule-refused : (x t : Tables) (m : TypingMode) (args : List GenericArg) (q : TraitRef) (i : ImplRow) → x ≡ t → trees_of q.args.items ≡ trees_of args →
    (refuses_impl m q (impl_of x i.id) ≡ false → fault.NoSolution ≡ fault.OutOfMemory) → IsTraitRule t m args i None
rule-refused x t m args q i e same h = (q, same, subst (λ (y : Tables). refuses_impl m q (impl_of y i.id) ≡ true) e (refused-at_once (refuses_impl m q (impl_of x i.id)) h))

-- a rule that is refused has no response
pub runs-refused : (env : List Clause) (q : Rule) (es : List RuleEntry) (s z : State) (b : Option Response) → es ≡ q.entries.items → b ≡ None → RunsAlone env es s b z → RunsTo env q s None z
unfolding RunsTo
runs-refused env q es s z b same none h =
    (z, None, subst (λ xs. RunsAlone env xs s None z) same (subst (λ o. RunsAlone env es s o z) none h), (refl, refl))

-- another one has its response beside what the more special impls come to
pub runs-beside : (env : List Clause) (q : Rule) (es fs : List RuleEntry) (s z u : State) (b : Option Response) (r : Response) (o : Outcome) (a : Option Response) →
    es ≡ q.entries.items → fs ≡ q.entries.items → b ≡ Some r → RunsAlone env es s b z → AsksMoreSpecial env (matched_impl fs) z o u → a ≡ answer_beside o r → RunsTo env q s a u
unfolding RunsTo
runs-beside env q es fs s z u b r o a same again some h asks is = (
  z,
  Some r,
  subst (λ xs. RunsAlone env xs s (Some r) z) same (subst (λ x. RunsAlone env es s x z) some h),
  (o, subst (λ xs. AsksMoreSpecial env (matched_impl xs) z o u) again asks, is),
)

-- it can still be applied
by-outcome : (o : Outcome) (z : State) (r : Response) → IsApplicable z r → IfSome (answer_beside o r) (IsApplicable z)
by-outcome outcome.Refuted z r h = h
by-outcome outcome.Holds z r h = tt
by-outcome outcome.Undecided z r h = record { base = h.base; values = h.values; entries = h.entries }

pub beside-applies : (s z : State) (o : Outcome) (r : Response) (a : Option Response) → a ≡ answer_beside o r → z ≡ restored s z → Keeps s.terms z.terms → IsSolved s.terms s.inference →
    IsApplicable s r → IfSome a (IsApplicable z)
beside-applies s z o r a is e keeps solved h =
    subst (λ x. IfSome x (IsApplicable z)) (sym is) (by-outcome o z r (applies-later s z r (ap (λ (x : State). x.inference) e) (ap (λ (x : State). x.storage) e) keeps solved h))
