-- Where the parameters of a header stand in given terms, and where a header may clash with them.
use Rattle.std.specs.Prelude.{◌≡◌, ◌&&◌, ◌⊎◌, ◌↔◌, ℕ, suc, Bool, true, false, List, [], ◌∷◌, map, slice_get, Option, Some, None, Vec, is_some}
use Rattle.std.specs.Global.{Global}
use Rattle.std.specs.List.{All, AllZip}
use Rattle.std.specs.Option.{option_map}
use Rattle.goal_terms.specs.Erased.{erased}
use Rattle.goal_terms.specs.Sorts.{IsArgument}
use Rattle.goal_interner.specs.TableMeaning.{tree_at}
use Rattle.goal_terms.specs.Tree.{Tree, node_of, parts_of}
use Rattle.goal_terms.specs.View.{tree_of_ref, trees_seen}
use Rattle.goal_terms.specs.declared.answers.ParamKind.{ParamKind}
use Rattle.goal_terms.specs.declared.answers.ParamKind.TheVariants as kind
use Rattle.goal_terms.specs.declared.heads.Head.{Head}
use Rattle.goal_terms.specs.declared.heads.Node.{Node}
use Rattle.goal_terms.specs.declared.heads.Node.TheVariants as nodes
use Rattle.goal_interner.specs.declared.term_nodes.TermId.{TermId}
use Rattle.goal_terms.specs.declared.terms.AliasTermKind.{AliasTermKind}
use Rattle.goal_terms.specs.declared.view.Parts.{Parts}
use Rattle.goal_terms.specs.declared.view.TermRef.{TermRef}
use Rattle.goal_lists.specs.Headers.{is_number, parameter_of, no_lifetime, under, PartAmong}
use Rattle.goal_lists.specs.Interned.{erased_at, erased_all, IsIn}
use Rattle.goal_lists.specs.Level.{Level}
use Rattle.goal_lists.specs.Levels.{level}
use Rattle.goal_lists.specs.Settings.{Setting}
use Rattle.goal_lists.specs.Words.{Exists, Pairs, SomePair}
use Rattle.goal_terms.specs.declared.modes.TypingMode.{TypingMode}
use Rattle.goal_eval.specs.Outcomes.{RunsFor, level_in, header_terms, SaysMatch}
use Rattle.goal_eval.specs.declared.eval.outcomes.Setting as over
use Rattle.goal_eval.specs.declared.eval.outcomes.HeaderMatch.{HeaderMatch}
use Rattle.goal_eval.specs.declared.relate.header_args.FilledArgs.{FilledArgs}
use Rattle.goal_eval.specs.declared.relate.header_places.Against.{Against}
use Rattle.goal_eval.specs.declared.relate.header_places.Place.{Place}
use Rattle.goal_eval.specs.declared.relate.header_places.Place.TheVariants as place
use Rattle.goal_eval.specs.declared.relate.header_questions.Question.{Question}
use Rattle.goal_eval.specs.declared.relate.header_questions.Question.TheVariants as question
use Rattle.goal_eval.specs.declared.relate.header_questions.Meeting.{Meeting}
use Rattle.goal_eval.specs.declared.relate.header_questions.Meeting.TheVariants as meeting
use Rattle.goal_eval.specs.declared.relate.headers.AskedHeader.{AskedHeader}

-- a part of a row, without lifetimes
abbrev pub erased_ref : TermRef → Tree
erased_ref r = erased (tree_of_ref r)

-- the parts of a row's term, without lifetimes
abbrev pub erased_refs : Parts → List Tree
erased_refs ps = map erased (trees_seen ps)

-- the terms of some numbers, and these without lifetimes
abbrev pub erased_trees : List Tree → List TermId → List Tree
erased_trees T ids = map erased (map (tree_at T) ids)

-- the arguments of a header that is asked, and the terms that it is matched with, without lifetimes
abbrev pub asked_terms : AskedHeader → List Tree
asked_terms a = header_terms a.header.now

abbrev pub asked_given : List Tree → AskedHeader → List Tree
asked_given T a = erased_all T a.given.now

-- a term may stand for a part of a header: it is an argument if that is one
abbrev pub MayStand : Tree → Tree → Type 0
MayStand t u = IsArgument t → IsArgument u

-- the same in pairs, as far as both lists go
unfoldable pub MayAllStand : List Tree → List Tree → Type 0
MayAllStand [] us = Unit {0}
MayAllStand (t ∷ ts) [] = Unit {0}
MayAllStand (t ∷ ts) (u ∷ us) = MayStand t u × MayAllStand ts us

-- whether a constructor is the parameter of a number
abbrev pub is_this : ℕ → Head → Bool
is_this n h = is_number n (parameter_of h)

-- whether a constructor is any parameter
abbrev pub is_any : Head → Bool
is_any h = is_some (parameter_of h)

-- the number of the parameter that a node is
abbrev pub parameter_at : Node → Option ℕ
parameter_at (nodes.Head h) = parameter_of h
parameter_at (nodes.Alias k) = None
parameter_at (nodes.Variable v) = None

-- a constructor of a header that doesn't pass a test stands against an alias
pub record IsBehind (T : List Tree) (test : Head → Bool) (h : TermRef) (g : TermId) : Type 0 where
  pub within : IsIn T g
  pub head : Head
  pub top : node_of (tree_of_ref h) ≡ nodes.Head head
  pub other : test head ≡ false
  pub kind : AliasTermKind
  pub alias : node_of (tree_at T g) ≡ nodes.Alias kind

-- the part that is found at a place
abbrev pub GivesPart : Level → ℕ → List Tree → Place → Tree → Type 0
GivesPart L n T (place.Is id) p = p ≡ erased_at T id
GivesPart L n T place.Missing p = ⊥
GivesPart L n T (place.Behind h g) p = L.part n (erased_ref h) (erased_at T g) p

-- the part that is found at a place is the one that a relation gives, at each level
abbrev pub FindsPart : ℕ → List Tree → Place → (Level → Tree → Type 0) → Type 0
FindsPart n T r P = (S : Setting) (k : ℕ) (p : Tree) → P (level S k) p ↔ GivesPart (level S k) n T r p

-- the terms of a place are in the table
abbrev pub PlaceIn : List Tree → ℕ → Place → Type 0
PlaceIn T n (place.Is id) = IsIn T id
PlaceIn T n place.Missing = Unit {0}
PlaceIn T n (place.Behind h g) = IsBehind T (is_this n) h g

-- whether a header's part is compared as a whole, as its instance: a parameter or an alias
abbrev pub is_whole : Node → Bool
is_whole (nodes.Head h) = is_any h
is_whole (nodes.Alias k) = true
is_whole (nodes.Variable v) = false

-- the parameters whose terms are known, from a list with what is known of each
abbrev pub IsKnown : List (Option Tree) → ℕ → Tree → Type 0
IsKnown ks n u = slice_get ks n ≡ Some (Some u)

-- the terms that are known, of some numbers
abbrev pub known_trees : List Tree → List (Option TermId) → List (Option Tree)
known_trees T known = map (option_map (erased_at T)) known

-- the terms that are known where arguments were filled from them
abbrev pub filled_trees : List Tree → FilledArgs → List (Option Tree)
filled_trees T f = known_trees T f.known.now

-- a header's part and the given term against which it stands clash
abbrev pub ClashAgainst : Level → List (Option Tree) → List Tree → Against → Type 0
ClashAgainst L ks T a = L.clash (IsKnown ks) (erased_ref a.header) (erased_at T a.given)

-- what is asked has the answer that header and given term clash
abbrev pub ClashAt : Level → List (Option Tree) → List Tree → Question → Type 0
ClashAt L ks T question.Differs = Unit {0}
ClashAt L ks T (question.Instance h g) = L.clash (IsKnown ks) (erased_ref h) (erased_at T g)
ClashAt L ks T (question.Behind h g) = L.clash (IsKnown ks) (erased_ref h) (erased_at T g)

-- a claim holds at each level, whatever is known of the parameters
abbrev pub ForEachKnown : (Level → List (Option Tree) → Type 0) → Type 0
ForEachKnown P = (S : Setting) (k : ℕ) (ks : List (Option Tree)) → P (level S k) ks

-- terms of a header and given terms differ in number, or two of them clash
abbrev pub SomeClash : Level → List (Option Tree) → List Tree → List Tree → Type 0
SomeClash L ks hs gs = SomePair (L.clash (IsKnown ks)) hs gs

-- one of some questions is answered by a clash just where a claim holds
abbrev pub AsksClash : List Tree → Vec Question Global → (Level → List (Option Tree) → Type 0) → Type 0
AsksClash T qs P = ForEachKnown (λ L ks. Exists (ClashAt L ks T) qs.items ↔ P L ks)

-- questions were added: one of them is answered by a clash where one was before, or where a claim holds
abbrev pub AddsClash : List Tree → Vec Question Global → Vec Question Global → (Level → List (Option Tree) → Type 0) → Type 0
AddsClash T old new P = ForEachKnown (λ L ks. Exists (ClashAt L ks T) new.items ↔ (Exists (ClashAt L ks T) old.items ⊎ P L ks))

-- the terms of a question are in the table
abbrev pub QuestionIn : List Tree → Question → Type 0
QuestionIn T question.Differs = Unit {0}
QuestionIn T (question.Instance h g) = IsIn T g × (is_whole (node_of (tree_of_ref h)) ≡ true)
QuestionIn T (question.Behind h g) = IsBehind T is_any h g

-- where a header's part and a given term clash, as they meet
abbrev pub MeetingClashes : Level → List (Option Tree) → List Tree → TermRef → TermId → Meeting → Type 0
MeetingClashes L ks T h g meeting.Nothing = ⊥
MeetingClashes L ks T h g (meeting.Asks q) = ClashAt L ks T q
MeetingClashes L ks T h g meeting.Parts = SomePair (L.clash (IsKnown ks)) (map erased (parts_of (tree_of_ref h))) (map erased (parts_of (tree_at T g)))

-- what they leave to ask is in the table
abbrev pub MeetingIn : List Tree → TermRef → TermId → Meeting → Type 0
MeetingIn T h g meeting.Nothing = Unit {0}
MeetingIn T h g (meeting.Asks q) = QuestionIn T q
MeetingIn T h g meeting.Parts = MayAllStand (parts_of (tree_of_ref h)) (parts_of (tree_at T g))

-- what a test says of a claim: that it holds, or not
abbrev pub Answers : Type 0 → Bool → Type 0
Answers P true = P
Answers P false = P → ⊥

-- what is known of a parameter is in the table
abbrev pub OptionIn : List Tree → Option TermId → Type 0
OptionIn T None = Unit {0}
OptionIn T (Some id) = IsIn T id

abbrev pub KnownIn : List Tree → List (Option TermId) → Type 0
KnownIn T known = All (OptionIn T) known

-- whether nothing is known at a place
abbrev pub is_unfilled : {A : Type 0} → Option (Option A) → Bool
is_unfilled None = true
is_unfilled (Some None) = true
is_unfilled (Some (Some x)) = false

-- whether the parameter of a number, if there is one, isn't known
abbrev pub is_missing : {A : Type 0} → List (Option A) → Option ℕ → Bool
is_missing ks None = false
is_missing ks (Some n) = is_unfilled (slice_get ks n)

-- whether a node is a parameter that isn't known
abbrev pub is_unknown : {A : Type 0} → List (Option A) → Node → Bool
is_unknown ks m = is_missing ks (parameter_at m)

-- an argument is what is known of its parameter, or a lifetime where nothing is
abbrev pub IsFilled : List Tree → Option TermId → TermId → Type 0
IsFilled T None id = erased_at T id ≡ no_lifetime
IsFilled T (Some x) id = id ≡ x

-- a list has the known terms of all parameters that are known, and lifetimes for the others
abbrev pub AreFilled : List Tree → List (Option TermId) → List TermId → Type 0
AreFilled T known args = AllZip (IsFilled T) known args

-- whether a parameter of a kind is known, or is a lifetime
abbrev pub is_settled : {A : Type 0} → ParamKind → Option A → Bool
is_settled kind.Lifetime o = true
is_settled kind.Ty o = is_some o
is_settled kind.Const o = is_some o

-- whether all type and const parameters are known
unfoldable pub is_complete : {A : Type 0} → List ParamKind → List (Option A) → Bool
is_complete [] os = true
is_complete (k ∷ ks) [] = false
is_complete (k ∷ ks) (o ∷ os) = is_settled k o && is_complete ks os

-- the instance of a header under a substitution is equal to given terms
abbrev pub EqualUnder : Level → List Tree → List Tree → List Tree → Type 0
EqualUnder L s hs gs = Pairs L.equal (map (under s) hs) gs

-- what is known of a part: its term, or that there is none
abbrev pub SaysPart : (Tree → Type 0) → Option Tree → Type 0
SaysPart P None = (p : Tree) → P p → ⊥
SaysPart P (Some p) = P p

-- what is known of a parameter of a header
abbrev pub SaysKnown : Level → List Tree → List Tree → ParamKind → ℕ → Option Tree → Type 0
SaysKnown L hs gs kind.Lifetime n o = o ≡ None
SaysKnown L hs gs kind.Ty n o = SaysPart (PartAmong L n hs gs) o
SaysKnown L hs gs kind.Const n o = SaysPart (PartAmong L n hs gs) o

-- what is known of the parameters from a number on
unfoldable pub KnownFrom : Level → List Tree → List Tree → ℕ → List ParamKind → List (Option Tree) → Type 0
KnownFrom L hs gs n [] [] = Unit {0}
KnownFrom L hs gs n [] (o ∷ os) = ⊥
KnownFrom L hs gs n (k ∷ ks) [] = ⊥
KnownFrom L hs gs n (k ∷ ks) (o ∷ os) = SaysKnown L hs gs k n o × KnownFrom L hs gs (suc n) ks os

-- each known term stands at its place of a list
abbrev pub Fills : List (Option TermId) → List TermId → Type 0
Fills known args = (n : ℕ) (id : TermId) → slice_get known n ≡ Some (Some id) → slice_get args n ≡ Some id

-- what is found of a part, in each mode for which a run stands
abbrev pub PartOutcome : over.Setting → ℕ → (Level → Tree → Type 0) → List Tree → Option TermId → Type 0
PartOutcome c d P T o = (m : TypingMode) → RunsFor c m → SaysPart (P (level_in c m d)) (option_map (erased_at T) o)

-- what is said of a term that may be known, in each of them
abbrev pub TermOutcome : over.Setting → ℕ → (Level → Option Tree → Type 0) → List Tree → Option TermId → Type 0
TermOutcome c d P T = λ o. (m : TypingMode) → RunsFor c m → P (level_in c m d) (option_map (erased_at T) o)

-- what a test says of a claim in each of them
abbrev pub TestOutcome : over.Setting → ℕ → (Level → Type 0) → Bool → Type 0
TestOutcome c d P b = (m : TypingMode) → RunsFor c m → Answers (P (level_in c m d)) b

-- what is known of all parameters, in each of them
abbrev pub KnownOutcome : over.Setting → ℕ → List Tree → List Tree → List ParamKind → List (Option Tree) → Type 0
KnownOutcome c d hs gs ps ks = (m : TypingMode) → RunsFor c m → KnownFrom (level_in c m d) hs gs 0 ps ks

-- the same for a header that is asked
abbrev pub AskedKnown : over.Setting → ℕ → List Tree → AskedHeader → List (Option Tree) → Type 0
AskedKnown c d T a = KnownOutcome c d (asked_terms a) (asked_given T a) a.params.now

-- what a header comes to, in each of them
abbrev pub MatchOutcome : over.Setting → ℕ → List ParamKind → List Tree → List Tree → List Tree → HeaderMatch → Type 0
MatchOutcome c d ps hs gs T r = (m : TypingMode) → RunsFor c m → SaysMatch (level_in c m d) ps hs gs T r

-- the same for a header that is asked, by the table before and the one after
abbrev pub AskedOutcome : over.Setting → ℕ → List Tree → AskedHeader → List Tree → HeaderMatch → Type 0
AskedOutcome c d T a = MatchOutcome c d a.params.now (asked_terms a) (asked_given T a)

-- what such a header comes to at a level
abbrev pub SaysAsked : Level → List Tree → AskedHeader → List Tree → HeaderMatch → Type 0
SaysAsked L T a = SaysMatch L a.params.now (asked_terms a) (asked_given T a)
