-- Trait goals over a consistent level: one that holds does so through one class, and isn't refuted.
use Rattle.std.proofs.Common.{◌≡◌, List, [], ◌∷◌, ◌++◌, refl, subst, ⊎_elim}
use Rattle.goal_terms.specs.Tree.{Tree}
use Rattle.goal_terms.specs.declared.answers.TraitGoalProvenVia.{TraitGoalProvenVia}
use Rattle.goal_terms.specs.declared.answers.TraitGoalProvenVia.TheVariants as class
use Rattle.goal_terms.specs.declared.ids.TraitId.{TraitId}
use Rattle.goal_lists.specs.Candidates.{Candidate, environment, alias_bounds, rest, class_of, classes_before, all_candidates}
use Rattle.goal_lists.specs.Laws.{IsConsistent}
use Rattle.goal_lists.specs.Level.{Level}
use Rattle.goal_lists.specs.Settings.{Setting}
use Rattle.goal_lists.specs.TraitGoals.{CandidateDecides, CandidateRuledOut, TraitHolds, TraitRefuted}
use Rattle.goal_lists.specs.Words.{Each, Exists}
use Rattle.goal_lists.proofs.CandidateLemmas.{no_candidate_ruled_out}
use Rattle.goal_lists.proofs.ContraryWords.{Exists-Each, Each-left, Each-right}
use Rattle.goal_lists.proofs.EqualLemmas.{one_head_form, no_head_form_refuted}

-- what all candidates have, those of a class have
Each-class : (P : Candidate → Type 0) (S : Setting) (i : TraitId) (s : Tree) (c : TraitGoalProvenVia) →
    Each P (all_candidates S i s) → Each P (class_of S i s c)
unfolding all_candidates class_of
Each-class P S i s class.ParamEnv h =
    Each-left P (environment S) (alias_bounds S s) (Each-left P (environment S ++ alias_bounds S s) (rest S i s) h)
Each-class P S i s class.AliasBound h =
    Each-right P (environment S) (alias_bounds S s) (Each-left P (environment S ++ alias_bounds S s) (rest S i s) h)
Each-class P S i s class.Misc h = Each-right P (environment S ++ alias_bounds S s) (rest S i s) h

-- of two classes that have a candidate each, where the classes before have none, neither is before the other
same_class : (P Q : Candidate → Type 0) → ((x : Candidate) → P x → Q x → ⊥) → (S : Setting) (i : TraitId) (s : Tree) (c d : TraitGoalProvenVia) →
    Exists P (class_of S i s c) → Each Q (classes_before S i s c) → Exists P (class_of S i s d) → Each Q (classes_before S i s d) → c ≡ d
unfolding class_of classes_before
same_class P Q f S i s class.ParamEnv class.ParamEnv h k l m = refl
same_class P Q f S i s class.ParamEnv class.AliasBound h k l m = absurd (Exists-Each P Q f (environment S) h m)
same_class P Q f S i s class.ParamEnv class.Misc h k l m = absurd (Exists-Each P Q f (environment S) h (Each-left Q (environment S) (alias_bounds S s) m))
same_class P Q f S i s class.AliasBound class.ParamEnv h k l m = absurd (Exists-Each P Q f (environment S) l k)
same_class P Q f S i s class.AliasBound class.AliasBound h k l m = refl
same_class P Q f S i s class.AliasBound class.Misc h k l m = absurd (Exists-Each P Q f (alias_bounds S s) h (Each-right Q (environment S) (alias_bounds S s) m))
same_class P Q f S i s class.Misc class.ParamEnv h k l m = absurd (Exists-Each P Q f (environment S) l (Each-left Q (environment S) (alias_bounds S s) k))
same_class P Q f S i s class.Misc class.AliasBound h k l m = absurd (Exists-Each P Q f (alias_bounds S s) l (Each-right Q (environment S) (alias_bounds S s) k))
same_class P Q f S i s class.Misc class.Misc h k l m = refl

-- a trait goal that holds isn't refuted
pub no_trait_goal_refuted : (S : Setting) (L : Level) → IsConsistent L → (v : TraitGoalProvenVia) (i : TraitId) (ts : List Tree) →
    TraitHolds S L v i ts → TraitRefuted S L i ts → ⊥
unfolding TraitHolds TraitRefuted
no_trait_goal_refuted S L c v i [] h k = h
no_trait_goal_refuted S L c v i (self ∷ args) h k =
    ⊎_elim
    (λ q. no_head_form_refuted L c.no_term_refuted self h.0 h.1 q)
    (λ u.
    let e : u.0 ≡ h.0 = one_head_form L c.one_term self u.0 h.0 u.1 h.1 in
    Exists-Each _ _ (no_candidate_ruled_out S L c i (h.0 ∷ args)) (class_of S i h.0 v) h.2
    (Each-class (CandidateRuledOut S L i (h.0 ∷ args)) S i h.0 v
    (subst (λ s. Each (CandidateRuledOut S L i (s ∷ args)) (all_candidates S i s)) e u.2)))
    k

-- a trait goal holds through one class
pub one_class_of_trait : (S : Setting) (L : Level) → IsConsistent L → (v w : TraitGoalProvenVia) (i : TraitId) (ts : List Tree) →
    TraitHolds S L v i ts → TraitHolds S L w i ts → v ≡ w
unfolding TraitHolds
one_class_of_trait S L c v w i [] h k = absurd h
one_class_of_trait S L c v w i (self ∷ args) h k =
    let e : k.0 ≡ h.0 = one_head_form L c.one_term self k.0 h.0 k.1 h.1 in
    same_class (CandidateDecides S L i (h.0 ∷ args)) (CandidateRuledOut S L i (h.0 ∷ args)) (no_candidate_ruled_out S L c i (h.0 ∷ args)) S i h.0 v w h.2 h.3
    (subst (λ s. Exists (CandidateDecides S L i (s ∷ args)) (class_of S i s w)) e k.2)
    (subst (λ s. Each (CandidateRuledOut S L i (s ∷ args)) (classes_before S i s w)) e k.3)
