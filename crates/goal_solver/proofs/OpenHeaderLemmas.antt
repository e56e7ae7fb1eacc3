-- Given terms of headers, opened alias by alias.
use Rattle.std.proofs.Common.{◌≡◌, ◌<◌, ◌≤◌, ◌∷◌, ℕ, zero, suc, Bool, true, false, List, [], Option, Some, None, map, length, refl, sym, ap, ◌∙◌, subst, inl, inr, arith, true≢false, Ok, Err}
use Rattle.std.specs.Prelude.{IfOk, IfSome, IsOkUnless, OnOk, Result, Vec}
use Rattle.std.specs.Global.{Global}
use Rattle.std.specs.List.{AllZip}
use Rattle.std.proofs.lemmas.List.Elements.{All-weaker, All-nil, All-cons, All-head, All-tail}
use Rattle.goal_terms.specs.Erased.{erased}
use Rattle.goal_terms.specs.Sorts.{is_argument_sort}
use Rattle.goal_interner.specs.TableMeaning.{tree_at, AreBelow, Keeps}
use Rattle.goal_terms.specs.Tree.{Tree, forest}
use Rattle.goal_terms.specs.TreeOf.{trees_of}
use Rattle.goal_terms.specs.View.{trees_seen}
use Rattle.goal_terms.specs.declared.modes.TypingMode.{TypingMode}
use Rattle.goal_terms.specs.declared.predicates.Clause.{Clause}
use Rattle.goal_interner.specs.declared.term_nodes.TermId.{TermId}
use Rattle.goal_terms.specs.declared.terms.GenericArg.{GenericArg}
use Rattle.goal_kinds.specs.declared.faults.Fault.{Fault}
use Rattle.goal_kinds.specs.declared.faults.Fault.TheVariants as fault
use Rattle.goal_kinds.specs.declared.rules.RuleArguments.{RuleArguments}
use Rattle.goal_kinds.specs.declared.rules.RuleArguments.TheVariants as arguments
use Rattle.goal_interner.proofs.UnderLemmas.{trees-same}
use Rattle.goal_lists.specs.Interned.{IsIn, AreIn}
use Rattle.goal_solver.specs.Answers.{IsOwed}
use Rattle.goal_solver.specs.GoingBack.{GoesBack, restored, at_depth}
use Rattle.goal_solver.specs.HeadForms.{IsClosedForm}
use Rattle.goal_solver.specs.OpenHeaders.{trees_at, HaveOneSort, Enters, IsRigidForm, FindsForm, IsFollowed, IsFoundForm, LacksConstructor, OpensAtMost, OpensSo, Opens, StopsOpening}
use Rattle.goal_solver.specs.OpenRuns.{IsAskedMatch, MatchesHeader, NamesArguments, NamesOpen, OpensArguments}
use Rattle.goal_solver.specs.Refusals.{RefusesArguments, RefusesNames, WhenRefused}
use Rattle.goal_solver.specs.Relating.{IsFaultFor}
use Rattle.goal_solver.specs.State.{State}
use Rattle.goal_solver.specs.declared.eval.run_rule.open_arguments.NamedArgs.{NamedArgs}
use Rattle.goal_solver.specs.declared.eval.run_rule.opened_headers.AskedMatch.{AskedMatch}
use Rattle.goal_lists.proofs.ResultLemmas.{ok-map}
use Rattle.goal_solver.proofs.AddedGoalLemmas.{records-through}
use Rattle.goal_solver.proofs.FormAnswerLemmas.{alias-erased}
use Rattle.goal_solver.proofs.GoingBackLemmas.{goes_back-grown, goes_back-through}
use Rattle.goal_solver.proofs.OpenFormLemmas.{restored-grown}
use Rattle.goal_solver.proofs.OpenTraitLemmas.{grown-records}
use Rattle.goal_solver.proofs.PutLemmas.{all_put-as_are}
use Rattle.goal_solver.proofs.RefusalLemmas.{refused-map}

map-map : {A B C : Type 0} (f : A → B) (g : B → C) (xs : List A) → map g (map f xs) ≡ map (λ x. g (f x)) xs
map-map f g [] = refl
map-map f g (x ∷ xs) = ap (λ ys. g (f x) ∷ ys) (map-map f g xs)

-- no alias is looked at, one more is, and then others
module _ (env : List Clause) (hs : List Tree) where
  pub opens-none : (xs : List Tree) (s : State) → Opens env hs xs s xs s
  unfolding OpensSo
  opens-none xs s = (0, (refl, refl))

  pub opens-next : (xs ys zs : List Tree) (s z u : State) → Opens env hs xs s ys z → OpensAtMost env hs ys z zs u → Opens env hs xs s zs u
  unfolding OpensSo
  opens-next xs ys zs s z u h step = (suc h.0, (ys, z, h.1, step))

  so-through : (k : ℕ) (xs ys zs : List Tree) (s z u : State) → Opens env hs xs s ys z → OpensSo env hs k ys z zs u → Opens env hs xs s zs u
  unfolding OpensSo
  so-through zero xs ys zs s z u h same = subst (λ ts. Opens env hs xs s ts u) (sym same.0) (subst (Opens env hs xs s ys) (sym same.1) h)
  so-through (suc k) xs ys zs s z u h more = opens-next xs more.0 zs s more.1 u (so-through k xs ys more.0 s z more.1 h more.2) more.3

  pub opens-through : (xs ys zs : List Tree) (s z u : State) → Opens env hs xs s ys z → Opens env hs ys z zs u → Opens env hs xs s zs u
  opens-through xs ys zs s z u h more = so-through more.0 xs ys zs s z u h more.1

  pub stops-through : (xs ys : List Tree) (s z u : State) → Opens env hs xs s ys z → StopsOpening env hs ys z u → StopsOpening env hs xs s u
  stops-through xs ys s z u h stops = record {
    opened = stops.opened;
    last = stops.last;
    opens = opens-through xs ys stops.opened s z stops.last h stops.opens;
    depth = stops.depth;
    below = stops.below;
    alias = stops.alias;
    lacks = stops.lacks;
  }

  pub stops-at_one : (xs ys : List Tree) (n : ℕ) (a : Tree) (s z u : State) → Opens env hs xs s ys z → n < z.remaining_depth → LacksConstructor env n a z u → StopsOpening env hs xs s u
  stops-at_one xs ys n a s z u h below lacks = record { opened = ys; last = z; opens = h; depth = n; below = below; alias = a; lacks = lacks }

-- arguments are in the table as terms are
pub in-below : (T : List Tree) (ids : List TermId) → AreIn T ids → AreBelow (length T) ids
in-below T ids h = All-weaker (IsIn T) (λ id. id.0 < length T) (λ id p. p.0) ids h

pub opened-same : (T U : List Tree) (ids : List TermId) → Keeps T U → AreIn T ids → trees_at U ids ≡ trees_at T ids
opened-same T U ids keeps h = trees-same T U ids keeps (in-below T ids h)

-- what is of one sort with arguments is one
pub sorts-in : (T U : List Tree) (ids js : List TermId) → AreIn T ids → AreBelow (length U) js → AllZip HaveOneSort (trees_at T ids) (trees_at U js) → AreIn U js
sorts-in T U [] [] h below z = All-nil (IsIn U)
sorts-in T U [] (j ∷ js) h below z = absurd z
sorts-in T U (i ∷ ids) [] h below z = absurd z
sorts-in T U (i ∷ ids) (j ∷ js) h below z =
    All-cons (IsIn U) j js (All-head (λ x. x.0 < length U) j js below, ap is_argument_sort z.0 ∙ (All-head (IsIn T) i ids h).1)
    (sorts-in T U ids js (All-tail (IsIn T) i ids h) (All-tail (λ x. x.0 < length U) j js below) z.1)

-- more terms after what goes back
restored-on : (s z w : State) → z ≡ restored s z → w ≡ record z { terms = w.terms } → w ≡ restored s w
restored-on s z w e f =
    f ∙ ap (λ (y : State). record y { terms = w.terms }) e
    ∙ sym (ap (λ (y : State). record s { terms = w.terms; accesses = y.accesses; delayed_faults = y.delayed_faults }) f)

-- what was found stays so where only terms come
owed-grown : (z w : State) (m : TypingMode) → w ≡ record z { terms = w.terms } → IsOwed w m → IsOwed z m
owed-grown z w m e owed = subst (λ (y : State). IsOwed y m) e owed

pub finds-grown : (env : List Clause) (n : ℕ) (a u : Tree) (s z w : State) → w ≡ record z { terms = w.terms } → Keeps z.terms w.terms → FindsForm env n a s u z → FindsForm env n a s u w
finds-grown env n a u s z w e keeps h = record {
  exact = λ m owed closed. h.exact m (owed-grown z w m e owed) closed;
  alone = records-through s z w h.alone (grown-records z w e);
  back = goes_back-through s z w h.back (goes_back-grown z w e keeps);
}

-- what was found is entered: it is put in the place of its alias, or that is passed over
pub opens-entered : (env : List Clause) (hs : List Tree) (n : ℕ) (a : TermId) (o : Option TermId) (s z w : State) (ids js : List TermId) → n < s.remaining_depth → a.0 < length s.terms → AreIn s.terms ids →
    IfSome o (IsFoundForm env n (tree_at s.terms a) s z) → (o ≡ None → z ≡ restored s z) → GoesBack s z → w ≡ record z { terms = w.terms } → Keeps z.terms w.terms → Enters z.terms a o hs ids w.terms js →
    OpensAtMost env hs (trees_at s.terms ids) s (trees_at w.terms js) w
opens-entered env hs n a None s z w ids js below inside within found none back e keeps enters =
    inr (
      ap (trees_at w.terms) enters ∙ opened-same s.terms w.terms ids (goes_back-through s z w back (goes_back-grown z w e keeps)).terms within,
      restored-on s z w (none refl) e,
    )
opens-entered env hs n a (Some form) s z w ids js below inside within found none back e keeps put =
    let kept : Keeps s.terms z.terms = back.terms in
    inl (record {
      depth = n;
      below = below;
      alias = tree_at s.terms a;
      form = tree_at z.terms form;
      finds = finds-grown env n (tree_at s.terms a) (tree_at z.terms form) s z w e keeps found.1;
      put = rw (sym (kept.same a inside), sym (opened-same s.terms z.terms ids kept within)) put;
    })

-- an alias whose head form is one has no constructor
pub lacks-rigid : (env : List Clause) (n : ℕ) (a : Tree) (s z w : State) (o : Option TermId) → IfSome o (IsFoundForm env n a s z) → w ≡ record z { terms = w.terms } → Keeps z.terms w.terms →
    IsRigidForm z.terms o → LacksConstructor env n a s w
lacks-rigid env n a s z w None found e keeps rigid = absurd rigid
lacks-rigid env n a s z w (Some form) found e keeps rigid = record {
  exact = λ m owed closed.
      inr (erased (tree_at z.terms form), found.1.exact m (owed-grown z w m e owed) closed, alias-erased (tree_at z.terms form) ∙ rigid);
  back = goes_back-through s z w found.1.back (goes_back-grown z w e keeps);
}

-- where an inference variable stands in an alias or in the environment nothing more is said of its head form
pub lacks-open : (env : List Clause) (n : ℕ) (a : Tree) (s z : State) → (IsClosedForm (erased a) env → ⊥) → GoesBack s z → LacksConstructor env n a s z
lacks-open env n a s z other back = record { exact = λ m owed closed. absurd (other closed); back = back }

-- arguments are named as they stand
pub names-plainly : (env : List Clause) (named : List (List Tree)) (a : RuleArguments) (s z u : State) (r : Result NamedArgs Fault) → z ≡ record s { terms = z.terms } → GoesBack z u →
    IfOk r (λ n. NamesOpen env named a z (trees_of n.args.items) n.certainty u) → IfOk r (λ n. NamesArguments env named a s (trees_of n.args.items) n.certainty u)
names-plainly env named a s z u r e back h =
    let same : z.remaining_depth ≡ s.remaining_depth = ap (λ (y : State). y.remaining_depth) e in
    ok-map (λ n. NamesOpen env named a z (trees_of n.args.items) n.certainty u) (λ n. NamesArguments env named a s (trees_of n.args.items) n.certainty u) r
    (λ n names. (
      a,
      z,
      z.remaining_depth,
      omega (arith, same),
      inl (refl, restored-grown s z e),
      subst (NamesOpen env named a z (trees_of n.args.items) n.certainty) (ap (λ k. at_depth k u) back.remaining_depth) names,
    )) h

pub refused-plainly : (env : List Clause) (named : List (List Tree)) (a : RuleArguments) (s z u : State) (r : Result NamedArgs Fault) → z ≡ record s { terms = z.terms } → GoesBack z u →
    WhenRefused r (RefusesNames env named a z u) → WhenRefused r (RefusesArguments env named a s u)
refused-plainly env named a s z u r e back h =
    let same : z.remaining_depth ≡ s.remaining_depth = ap (λ (y : State). y.remaining_depth) e in
    refused-map r
    (λ refuses. inr (a, z, z.remaining_depth, omega (arith, same), inl (refl, restored-grown s z e), subst (RefusesNames env named a z) (ap (λ k. at_depth k u) back.remaining_depth) refuses)) h

-- what is asked of a header, and what came of its given terms
module _ (env : List Clause) (named : List (List Tree)) (a : RuleArguments) (s z : State) (m : AskedMatch) (asked : IsAskedMatch named a s z.terms m) (e : z ≡ record s { terms = z.terms }) where
  matched : MatchesHeader named a s m.header (trees_seen m.terms) asked.given
  matched = record { asked = asked.asked; params = asked.is.params; has = asked.is.has }

  followed : IsFollowed asked.given s (trees_at z.terms m.given.items) z
  followed = record { follows = map-map (tree_at z.terms) erased m.given.items ∙ asked.is.follows; grown = restored-grown s z e }

  opened-for : (args : Vec GenericArg Global) (ids : List TermId) (v : State) → trees_of args.items ≡ trees_at v.terms ids →
      Opens env (trees_seen m.terms) (trees_at z.terms m.given.items) z (trees_at v.terms ids) v → OpensArguments env named a s (arguments.Header m.header args) v
  opened-for args ids v same opens = record {
    header = m.header;
    terms = trees_seen m.terms;
    given = asked.given;
    matches = matched;
    followed = trees_at z.terms m.given.items;
    known = z;
    follows = followed;
    args = args;
    is = refl;
    opens = subst (λ ts. Opens env (trees_seen m.terms) (trees_at z.terms m.given.items) z ts v) (sym same) opens;
  }

  pub names-opened : (args : Vec GenericArg Global) (ids : List TermId) (v u : State) (k : ℕ) (r : Result NamedArgs Fault) → k ≤ z.remaining_depth → trees_of args.items ≡ trees_at v.terms ids →
      Opens env (trees_seen m.terms) (trees_at z.terms m.given.items) z (trees_at v.terms ids) v →
      IfOk r (λ n. NamesOpen env named (arguments.Header m.header args) (at_depth k v) (trees_of n.args.items) n.certainty (at_depth k u)) →
      IfOk r (λ n. NamesArguments env named a s (trees_of n.args.items) n.certainty u)
  names-opened args ids v u k r l same opens h =
      let depth : z.remaining_depth ≡ s.remaining_depth = ap (λ (y : State). y.remaining_depth) e in
      ok-map (λ n. NamesOpen env named (arguments.Header m.header args) (at_depth k v) (trees_of n.args.items) n.certainty (at_depth k u)) (λ n. NamesArguments env named a s (trees_of n.args.items) n.certainty u) r
      (λ n names. (arguments.Header m.header args, v, k, omega (arith, depth), inr (opened-for args ids v same opens), names)) h

  pub refused-opened : (args : Vec GenericArg Global) (ids : List TermId) (v u : State) (k : ℕ) (r : Result NamedArgs Fault) → k ≤ z.remaining_depth → trees_of args.items ≡ trees_at v.terms ids →
      Opens env (trees_seen m.terms) (trees_at z.terms m.given.items) z (trees_at v.terms ids) v →
      WhenRefused r (RefusesNames env named (arguments.Header m.header args) (at_depth k v) (at_depth k u)) → WhenRefused r (RefusesArguments env named a s u)
  refused-opened args ids v u k r l same opens h =
      let depth : z.remaining_depth ≡ s.remaining_depth = ap (λ (y : State). y.remaining_depth) e in
      refused-map r (λ refuses. inr (arguments.Header m.header args, v, k, omega (arith, depth), inr (opened-for args ids v same opens), refuses)) h

  pub refused-opening : (u : State) → StopsOpening env (trees_seen m.terms) (trees_at z.terms m.given.items) z u → RefusesArguments env named a s u
  refused-opening u stops = inl (record {
    header = m.header;
    terms = trees_seen m.terms;
    given = asked.given;
    matches = matched;
    followed = trees_at z.terms m.given.items;
    known = z;
    follows = followed;
    stops = stops;
  })

-- what was done with another depth, in the context with its own again
raised : (x w : State) (k : ℕ) → GoesBack (at_depth k x) w → GoesBack x (at_depth x.remaining_depth w)
raised x w k g = record {
  tables = g.tables;
  typing_mode = g.typing_mode;
  remaining_depth = refl;
  stop_on_rerun = g.stop_on_rerun;
  terms = g.terms;
  inference = g.inference;
  goals = g.goals;
  taken = g.taken;
  storage = g.storage;
  accesses = g.accesses;
  delayed_faults = g.delayed_faults;
  mark = g.mark;
}

pub back-at_depth : (x a y w : State) (k d : ℕ) → x ≡ a → y ≡ w → d ≡ x.remaining_depth → GoesBack (at_depth k x) w → GoesBack a (at_depth d y)
back-at_depth x a y w k d e f same g =
    subst (λ (s : State). GoesBack s (at_depth d y)) e
    (subst (λ (s : State). GoesBack x (at_depth d s)) (sym f) (subst (λ n. GoesBack x (at_depth n w)) (sym same) (raised x w k g)))

pub said-at_depth : (M : State → State → Type 0) (x a y w : State) (k d : ℕ) → x ≡ a → y ≡ w → GoesBack (at_depth k x) w → M (at_depth k x) w → M (at_depth k a) (at_depth k (at_depth d y))
said-at_depth M x a y w k d e f g h =
    subst (λ (s : State). M (at_depth k s) (at_depth k y)) e
    (subst (λ (s : State). M (at_depth k x) (at_depth k s)) (sym f) (subst (M (at_depth k x)) (ap (λ n. at_depth n w) g.remaining_depth) h))

-- a refusal of which something is said whatever it is
pub refused-always : {T : Type 0} (P : Type 0) (r : Result T Fault) → P → WhenRefused r P
refused-always P (Ok x) p = tt
refused-always P (Err f) p = λ is. p

-- an alias or an environment with inference variables isn't closed
pub open-not_closed : (b c : Bool) → b ≡ true → b ≡ c → c ≡ false → ⊥
open-not_closed b c e f g = true≢false (sym e ∙ f ∙ g)

-- what is said of what is there
pub some-asked : {A : Type 0} (P : A → Type 0) (o : Option A) (x : A) → IfSome o P → o ≡ Some x → P x
some-asked P o x h e = subst (λ y. IfSome y P) e h

-- a passed alias is entered nowhere
pub enters-nothing : (T : List Tree) (a : TermId) (o : Option TermId) (hs : List Tree) (ids js : List TermId) → js ≡ ids → Enters T a o hs ids T js
enters-nothing T a None hs ids js e = e
enters-nothing T a (Some u) hs ids js e = all_put-as_are (tree_at T a) (tree_at T u) (forest hs) (trees_at T ids) (trees_at T js) (ap (trees_at T) (sym e))

-- what is so whatever is answered
pub on_ok-always : {T E : Type 0} {P : Type 0} (r : Result T E) → P → OnOk r P
on_ok-always (Ok x) p = p
on_ok-always (Err f) p = tt

-- want of memory is a fault that any call may have
pub memory-fault : {T : Type 0} (s z : State) (r : Result T Fault) → IsOkUnless r fault.OutOfMemory → IsFaultFor s z r
memory-fault s z (Ok x) h = tt
memory-fault {T} s z (Err f) h = subst (λ g. IsFaultFor {T = T} s z (Err g)) (sym h) tt

-- arguments are named for opened terms with another depth, in the context with its own again
pub names-below : (env : List Clause) (named : List (List Tree)) (a : RuleArguments) (s z : State) (m : AskedMatch) → IsAskedMatch named a s z.terms m → z ≡ record s { terms = z.terms } →
    (args : Vec GenericArg Global) (ids : List TermId) (x v y w : State) (k d : ℕ) (r : Result NamedArgs Fault) → k ≤ z.remaining_depth → trees_of args.items ≡ trees_at v.terms ids →
    Opens env (trees_seen m.terms) (trees_at z.terms m.given.items) z (trees_at v.terms ids) v → x ≡ v → y ≡ w → GoesBack (at_depth k x) w →
    IfOk r (λ n. NamesOpen env named (arguments.Header m.header args) (at_depth k x) (trees_of n.args.items) n.certainty w) →
    IfOk r (λ n. NamesArguments env named a s (trees_of n.args.items) n.certainty (at_depth d y))
names-below env named a s z m asked e args ids x v y w k d r l same opens f g back h =
    names-opened env named a s z m asked e args ids v (at_depth d y) k r l same opens
    (said-at_depth (λ p q. IfOk r (λ n. NamesOpen env named (arguments.Header m.header args) p (trees_of n.args.items) n.certainty q)) x v y w k d f g back h)
