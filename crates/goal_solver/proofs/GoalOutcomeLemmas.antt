-- Goals that were added, by the numbers of their terms.
use Rattle.std.proofs.Common.{◌≡◌, ◌<◌, List, [], ◌∷◌, length, map, sym, ap, ◌∙◌, subst}
use Rattle.std.proofs.lemmas.List.Elements.{All-nil, All-cons, All-head, All-tail}
use Rattle.goal_terms.specs.Sorts.{IsArgument, sort_of, is_argument_sort}
use Rattle.goal_interner.specs.TableMeaning.{tree_at, AreBelow, HasTerm, Keeps}
use Rattle.goal_terms.specs.Tree.{Tree, node_of}
use Rattle.goal_terms.specs.TreeOf.{tree_of_term}
use Rattle.goal_interner.specs.declared.term_nodes.TermId.{TermId}
use Rattle.goal_terms.specs.declared.terms.Term.{Term}
use Rattle.goal_terms.proofs.SortLemmas.{term_sort}
use Rattle.goal_infer.specs.Following.{sort_at}
use Rattle.goal_lists.specs.Interned.{IsIn, AreIn}
use Rattle.goal_solver.specs.GoingBack.{GoesBack}
use Rattle.goal_solver.specs.State.{State}
use Rattle.goal_solver.proofs.GoingBackLemmas.{goes_back-grown, goes_back-through}
use Rattle.goal_eval.proofs.InterningLemmas.{is_argument-term}

-- the number of a type or a constant is that of an argument
pub term-in : (U : List Tree) (t : Term) (id : TermId) → id.0 < length U → tree_at U id ≡ tree_of_term t → IsIn U id
term-in U t id l e = (l, subst IsArgument (sym e) (is_argument-term (sort_of (node_of (tree_of_term t))) (term_sort t)))

pub has-term_in : (U : List Tree) (id : TermId) → HasTerm U id → IsIn U id
has-term_in U id h = (h.0, is_argument-term (sort_of (node_of (tree_at U id))) h.1)

pub ruleset numbers = (has-term_in)

-- a term with its bindings followed is an argument where the term is one
pub followed-in : (T U : List Tree) (id r : TermId) → IsIn T id → r.0 < length U → sort_at U r ≡ sort_at T id → IsIn U r
followed-in T U id r h l e = (l, ap is_argument_sort e ∙ h.1)

pub followed-all_in : (T U : List Tree) (ids rs : List TermId) → AreIn T ids → AreBelow (length U) rs → map (sort_at U) rs ≡ map (sort_at T) ids → AreIn U rs
followed-all_in T U ids [] h b e = All-nil (IsIn U)
followed-all_in T U [] (r ∷ rs) h b e = absurd (cc)
followed-all_in T U (id ∷ ids) (r ∷ rs) h b e =
    let first : sort_at U r ≡ sort_at T id = cc in
    let rest : map (sort_at U) rs ≡ map (sort_at T) ids = cc in
    All-cons (IsIn U) r rs (followed-in T U id r (All-head (IsIn T) id ids h) (All-head (λ x. x.0 < length U) r rs b) first)
    (followed-all_in T U ids rs (All-tail (IsIn T) id ids h) (All-tail (λ x. x.0 < length U) r rs b) rest)

-- more terms, and nothing else
pub grown-goes_back : (a b : State) → b ≡ record a { terms = b.terms } → Keeps a.terms b.terms → GoesBack a b
grown-goes_back = goes_back-grown

pub grown-goes_back_twice : (a b c : State) → b ≡ record a { terms = b.terms } → c ≡ record b { terms = c.terms } → Keeps a.terms b.terms → Keeps b.terms c.terms → GoesBack a c
grown-goes_back_twice a b c e f k l = goes_back-through a b c (goes_back-grown a b e k) (goes_back-grown b c f l)

pub grown-twice_then_back : (a b c d : State) → b ≡ record a { terms = b.terms } → c ≡ record b { terms = c.terms } → Keeps a.terms b.terms → Keeps b.terms c.terms → GoesBack c d → GoesBack a d
grown-twice_then_back a b c d e f k l g = goes_back-through a c d (grown-goes_back_twice a b c e f k l) g

-- then another step
pub grown-then_back : (a b c : State) → b ≡ record a { terms = b.terms } → Keeps a.terms b.terms → GoesBack b c → GoesBack a c
grown-then_back a b c e k g = goes_back-through a b c (goes_back-grown a b e k) g
