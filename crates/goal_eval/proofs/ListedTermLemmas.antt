-- What the run of a list says of the candidate, or of the alias, whose list it is.
use Rattle.std.proofs.Common.{◌≡◌, ℕ, suc, List, Option, Some, None, refl, sym, ap, ap₂, subst}
use Rattle.goal_terms.specs.Tree.{Tree}
use Rattle.goal_terms.specs.declared.ids.ItemId.{ItemId}
use Rattle.goal_terms.specs.declared.modes.TypingMode.{TypingMode}
use Rattle.goal_terms.specs.declared.terms.AliasTermKind.{AliasTermKind}
use Rattle.goal_terms.specs.declared.terms.AliasTermKind.TheVariants.{ProjectionTy, ProjectionConst, InherentTy, InherentConst, OpaqueTy, FreeTy, FreeConst, UnevaluatedConst}
use Rattle.goal_lists.specs.AliasLists.{alias_list}
use Rattle.goal_lists.specs.Answers.{setting_of}
use Rattle.goal_lists.specs.Candidates.{Candidate}
use Rattle.goal_lists.specs.Entries.{Entry, ListGives, ListRefuted}
use Rattle.goal_lists.specs.ImplTerms.{Projection}
use Rattle.goal_lists.specs.InternedEntries.{setting_at}
use Rattle.goal_lists.specs.Levels.{level}
use Rattle.goal_lists.specs.ListModes.{ListStandsIn}
use Rattle.goal_lists.specs.ProjectionLists.{projection_list}
use Rattle.goal_lists.specs.Projections.{projected_item, CandidateGives, TermRefuted}
use Rattle.goal_lists.specs.Settings.{Setting}
use Rattle.goal_lists.specs.declared.lists.ListSetting.{ListSetting}
use Rattle.goal_lists.proofs.AliasLists.{alias_list-gives, alias_list-refuted}
use Rattle.goal_lists.proofs.ListHeights.{list_holds-not_refuted}
use Rattle.goal_lists.proofs.ListStandIns.{projection_list-stands_in, alias_list-stands_in}
use Rattle.goal_lists.proofs.ListTerms.{asks_none-gives, gives-with}
use Rattle.goal_lists.proofs.ProjectionLists.{projection_list-gives, projection_list-refuted}
use Rattle.goal_eval.specs.Lists.{list_mode, IsListFor, SaysList, list_term}
use Rattle.goal_eval.specs.Outcomes.{RunsFor, setting_in, SaysWhich}
use Rattle.goal_eval.specs.declared.eval.outcomes.Setting as over
use Rattle.goal_eval.specs.declared.eval.outcomes.Found.{Found}
use Rattle.goal_eval.specs.declared.eval.lists.ListOutcome.{ListOutcome}
use Rattle.goal_eval.specs.declared.eval.lists.ListOutcome.TheVariants as list
use Rattle.goal_eval.proofs.RunModes.{list-for}
use Rattle.goal_eval.proofs.MergingLemmas.{which-map}

-- which term a list gives; one that asks for none gives none, and isn't refuted where it holds
outcome-says : (S : Setting) (n : ℕ) (o : Option (List Entry)) (T : List Tree) (x : ListOutcome) → SaysList (level S n) o T x →
    SaysWhich (ListGives (level S n) o) (ListRefuted (level S n) o) T (list_term x)
outcome-says S n o T (list.Holds None) h = (λ u g. asks_none-gives (level S n) o u h.1 g, λ r. list_holds-not_refuted S n n o h.0 r)
outcome-says S n o T (list.Holds (Some id)) h = h
outcome-says S n o T list.Refuted h = h
outcome-says S n o T list.Undecided h = (λ u g. h.0 u (gives-with (level S n) o u g), h.1)

term-says : (S : Setting) (n : ℕ) (o : Option (List Entry)) (T : List Tree) (x : ListOutcome) (f : Found) → f ≡ list_term x → SaysList (level S n) o T x →
    SaysWhich (ListGives (level S n) o) (ListRefuted (level S n) o) T f
term-says S n o T x f is h = subst (SaysWhich (ListGives (level S n) o) (ListRefuted (level S n) o) T) (sym is) (outcome-says S n o T x h)

-- the list of a candidate for a projection's term
pub candidate-says : (S : Setting) (n : ℕ) (p : Projection) (itself : Tree) (c : Candidate) (T : List Tree) (x : ListOutcome) (f : Found) → f ≡ list_term x →
    SaysList (level S n) (projection_list S p itself c) T x → SaysWhich (λ u. CandidateGives S (level S n) p itself u c) (TermRefuted S (level S n) p c) T f
candidate-says S n p itself c T x f is h =
    which-map (ListGives (level S n) (projection_list S p itself c)) (λ u. CandidateGives S (level S n) p itself u c)
    (ListRefuted (level S n) (projection_list S p itself c)) (TermRefuted S (level S n) p c) T
    (λ u. (projection_list-gives S (level S n) p itself c u).0) (λ u. (projection_list-gives S (level S n) p itself c u).1)
    (projection_list-refuted S (level S n) p itself c).0 (projection_list-refuted S (level S n) p itself c).1
    f (term-says S n (projection_list S p itself c) T x f is h)

-- the list of an alias that is no projection, one below the alias
alias-above : (S : Setting) (n : ℕ) (k : AliasTermKind) → projected_item k ≡ None → (args T : List Tree) (x : ListOutcome) (f : Found) → f ≡ list_term x →
    SaysList (level S n) (Some (alias_list S k args)) T x → SaysWhich ((level S (suc n)).gives k args) ((level S (suc n)).gives_refuted k args) T f
unfolding level
alias-above S n k none args T x f is h =
    which-map (ListGives (level S n) (Some (alias_list S k args))) ((level S (suc n)).gives k args)
    (ListRefuted (level S n) (Some (alias_list S k args))) ((level S (suc n)).gives_refuted k args) T
    (λ u. (alias_list-gives S (level S n) k args none u).0) (λ u. (alias_list-gives S (level S n) k args none u).1)
    (alias_list-refuted S (level S n) k args none).0 (alias_list-refuted S (level S n) k args none).1
    f (term-says S n (Some (alias_list S k args)) T x f is h)

pub alias-says : (S : Setting) (n d : ℕ) → d ≡ suc n → (k : AliasTermKind) → projected_item k ≡ None → (args T : List Tree) (x : ListOutcome) (f : Found) → f ≡ list_term x →
    SaysList (level S n) (Some (alias_list S k args)) T x → SaysWhich ((level S d).gives k args) ((level S d).gives_refuted k args) T f
alias-says S n d above k none args T x f is h =
    subst (λ y. SaysWhich ((level S y).gives k args) ((level S y).gives_refuted k args) T f) (sym above) (alias-above S n k none args T x f is h)

-- what the lists of a run are made for
pub made-for : (s : over.Setting) (l : ListSetting) → l.rows ≡ s.rows → l.mode.now ≡ list_mode s →
    setting_at l s.environment.now ≡ setting_in s (list_mode s)
made-for s l e f = ap₂ (λ r x. setting_of r.now x s.environment.now) e f

-- a run goes by the list of a candidate for a projection's term
pub candidate-for : (s : over.Setting) (m : TypingMode) → RunsFor s m → (p : Projection) (itself : Tree) (c : Candidate) (o : Option (List Entry)) →
    o ≡ projection_list (setting_in s (list_mode s)) p itself c → IsListFor s o (projection_list (setting_in s m) p itself c)
candidate-for s m stands p itself c o is =
    list-for (λ x. projection_list (setting_in s x) p itself c) s m o stands is (λ e. projection_list-stands_in (setting_in s m) m e p itself c)

-- and by that of an alias that is no projection
pub alias-for : (s : over.Setting) (m : TypingMode) → RunsFor s m → (k : AliasTermKind) (args : List Tree) (es : List Entry) →
    es ≡ alias_list (setting_in s (list_mode s)) k args → IsListFor s (Some es) (Some (alias_list (setting_in s m) k args))
unfolding ListStandsIn
alias-for s m stands k args es is =
    list-for (λ x. Some (alias_list (setting_in s x) k args)) s m (Some es) stands (ap Some is)
    (λ e. (alias_list (setting_in s m) k args, refl, alias_list-stands_in (setting_in s m) m e k args))

-- an alias of another kind than the two of projections projects nothing
pub no_item : (k : AliasTermKind) → ((i : ItemId) → k ≡ ProjectionTy i → ⊥) → ((i : ItemId) → k ≡ ProjectionConst i → ⊥) → projected_item k ≡ None
no_item (ProjectionTy i) a b = absurd (a i refl)
no_item (ProjectionConst i) a b = absurd (b i refl)
no_item (InherentTy i) a b = refl
no_item (InherentConst i) a b = refl
no_item (OpaqueTy i) a b = refl
no_item (FreeTy i) a b = refl
no_item (FreeConst i) a b = refl
no_item (UnevaluatedConst n) a b = refl
