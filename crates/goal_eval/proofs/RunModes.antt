-- Which lists a run goes by, in each headline mode for which it stands.
use Rattle.std.proofs.Common.{◌≡◌, true, false, List, Option, inl, inr, refl, sym, ap, ◌∙◌, subst, ⊎_elim}
use Rattle.std.specs.Prelude.{if◌then◌else◌}
use Rattle.goal_terms.specs.declared.modes.TypingMode.{TypingMode}
use Rattle.goal_terms.specs.declared.modes.TypingMode.TheVariants as mode
use Rattle.goal_lists.specs.Entries.{Entry}
use Rattle.goal_lists.specs.ListModes.{ListStandsIn}
use Rattle.goal_lists.specs.Settings.{is_erased, is_headline}
use Rattle.goal_eval.specs.Lists.{mode_of_lists, list_mode, IsListFor}
use Rattle.goal_eval.specs.Outcomes.{RunsAs, RunsFor, GoesByOwn}
use Rattle.goal_eval.specs.declared.eval.outcomes.OnAccess.{OnAccess}
use Rattle.goal_eval.specs.declared.eval.outcomes.OnAccess.TheVariants as on_access
use Rattle.goal_eval.specs.declared.eval.outcomes.Setting as over

-- some runs go by the lists of their own mode: those of the erased one do
erased-own : (run : TypingMode) → is_erased run ≡ true → mode_of_lists on_access.Stop run ≡ run
erased-own mode.Coherence e = absurd (cc)
erased-own (mode.Analysis ids) e = absurd (cc)
erased-own (mode.Borrowck ids) e = absurd (cc)
erased-own (mode.PostBorrowckAnalysis ids) e = absurd (cc)
erased-own mode.PostAnalysis e = absurd (cc)
erased-own mode.ErasedNotCoherence e = refl

-- so do those of the headline, and those that go on
own-lists : (on : OnAccess) (run : TypingMode) → GoesByOwn on run → mode_of_lists on run ≡ run
own-lists on_access.Stop run (inl e) = ap (λ b. if b then run else mode.ErasedNotCoherence) e
own-lists on_access.Stop run (inr (inl e)) = erased-own run e
own-lists on_access.Stop run (inr (inr e)) = absurd (cc)
own-lists on_access.Record run e = refl

-- one that stops at modes goes by those of the erased mode
erased-lists : (on : OnAccess) (run : TypingMode) → is_headline run ≡ false → on ≡ on_access.Stop → mode_of_lists on run ≡ mode.ErasedNotCoherence
erased-lists on run e f = ap (λ x. mode_of_lists x run) f ∙ ap (λ b. if b then run else mode.ErasedNotCoherence) e

-- a list that is made for a run stands for that of each mode for which the run stands
pub list-for : (f : TypingMode → Option (List Entry)) (c : over.Setting) (m : TypingMode) (o : Option (List Entry)) → RunsFor c m → o ≡ f (list_mode c) →
    (is_headline m ≡ true → ListStandsIn (f mode.ErasedNotCoherence) (f m)) → IsListFor c o (f m)
unfolding RunsAs
list-for f c m o s is for =
    ⊎_elim
    (λ h. inl (sym (ap f (own-lists c.on_access c.typing_mode.now h.1 ∙ h.0)) ∙ sym is))
    (λ h. inr (h.1, subst (λ q. ListStandsIn q (f m)) (sym (is ∙ ap f (erased-lists c.on_access c.typing_mode.now h.1.0 h.1.1))) (for h.0))) s.0
