-- An evaluation's effects stay sound, and the accesses of the lists that it runs have their cause in the tables.
use Rattle.std.proofs.Common.{◌≡◌, ◌⊎◌, List, Option, Vec, Result, Ok, Err, sym, subst, ⊎_elim}
use Rattle.std.specs.Prelude.{IfOk}
use Rattle.std.specs.Global.{Global}
use Rattle.std.specs.List.{All, Contains}
use Rattle.std.proofs.lemmas.List.Elements.{All-contains, All-contains_itself, All-weaker}
use Rattle.goal_terms.specs.Tree.{Tree}
use Rattle.goal_terms.specs.declared.answers.DelayedFault.{DelayedFault}
use Rattle.goal_terms.specs.declared.answers.OpaqueAccess.{OpaqueAccess}
use Rattle.goal_tables.specs.declared.rows.Tables.{Tables}
use Rattle.goal_lists.specs.Causes.{IsCaused, IsFaultCaused, IsCausedEntry, IsCausedList}
use Rattle.goal_lists.specs.Entries.{Entry}
use Rattle.goal_lists.specs.InternedEntries.{entries_at, list_at}
use Rattle.goal_lists.specs.declared.lists.InternedEntry.{InternedEntry}
use Rattle.goal_lists.proofs.CauseLemmas.{AreCaused, ListCaused, made-caused, list-caused}
use Rattle.goal_eval.specs.Effects.{AreSound}
use Rattle.goal_eval.specs.EvaluationCache.{IsValidCache}
use Rattle.goal_eval.specs.declared.eval.effects.Effects.{Effects}
use Rattle.goal_eval.specs.declared.eval.outcomes.Setting as over

-- after an access with a cause, and after a delayed fault
pub sound-read : (c : over.Setting) (T : List Tree) (e n : Effects) (a : OpaqueAccess) → IsCaused c.rows.now a →
    ((x : OpaqueAccess) → Contains n.accesses.items x → Contains e.accesses.items x ⊎ (a ≡ x)) → n.delayed_faults ≡ e.delayed_faults → n.cache ≡ e.cache → AreSound c T e → AreSound c T n
unfolding AreSound
sound-read c T e n a caused listed faults same s = record {
  answers = subst (IsValidCache c T) (sym same) s.answers;
  causes =
      All-weaker (Contains n.accesses.items) (IsCaused c.rows.now)
      (λ x h. ⊎_elim (λ k. All-contains (IsCaused c.rows.now) e.accesses.items x s.causes k) (λ q. subst (IsCaused c.rows.now) q caused) (listed x h))
      n.accesses.items (All-contains_itself n.accesses.items);
  faults = subst (λ (v : Vec DelayedFault Global). All (IsFaultCaused c.rows.now) v.items) (sym faults) s.faults;
}

pub sound-met : (c : over.Setting) (T : List Tree) (e n : Effects) (f : DelayedFault) → IsFaultCaused c.rows.now f →
    ((x : DelayedFault) → Contains n.delayed_faults.items x → Contains e.delayed_faults.items x ⊎ (f ≡ x)) → n.accesses ≡ e.accesses → n.cache ≡ e.cache → AreSound c T e → AreSound c T n
unfolding AreSound
sound-met c T e n f caused listed accesses same s = record {
  answers = subst (IsValidCache c T) (sym same) s.answers;
  causes = subst (λ (v : Vec OpaqueAccess Global). All (IsCaused c.rows.now) v.items) (sym accesses) s.causes;
  faults =
      All-weaker (Contains n.delayed_faults.items) (IsFaultCaused c.rows.now)
      (λ x h. ⊎_elim (λ k. All-contains (IsFaultCaused c.rows.now) e.delayed_faults.items x s.faults k) (λ q. subst (IsFaultCaused c.rows.now) q caused) (listed x h))
      n.delayed_faults.items (All-contains_itself n.delayed_faults.items);
}

-- the list that was made for a candidate or an alias
pub listed-caused : {E : Type 0} (t u : Tables) (T : List Tree) (r : Result (Option (Vec InternedEntry Global)) E) (f : Option (List Entry)) → t ≡ u → ListCaused t f →
    IfOk r (λ o. list_at T o ≡ f) → IfOk r (IsCausedList u)
listed-caused t u T (Ok o) f e h is = subst (λ v. IsCausedList v o) e (list-caused t T o f is h)
listed-caused t u T (Err x) f e h is = tt

pub entries-caused : {E : Type 0} (t u : Tables) (T : List Tree) (r : Result (Vec InternedEntry Global) E) (f : List Entry) → t ≡ u → AreCaused t f →
    IfOk r (λ es. entries_at T es.items ≡ f) → IfOk r (λ es. All (IsCausedEntry u) es.items)
entries-caused t u T (Ok es) f e h is = subst (λ v. All (IsCausedEntry v) es.items) e (made-caused t T es.items f is h)
entries-caused t u T (Err x) f e h is = tt
