-- Words that are contrary to each other.
use Rattle.std.proofs.Common.{Bool, true, false, List, [], ◌∷◌, ◌++◌, Option, Some, None, ⊎_elim}
use Rattle.goal_lists.specs.Words.{Each, Exists, OfRow, Either}

-- what follows where an element has one property and all elements have another
pub Exists-Each : {A C : Type 0} (P Q : A → Type 0) → ((x : A) → P x → Q x → C) → (xs : List A) → Exists P xs → Each Q xs → C
unfolding Exists Each
Exists-Each P Q f [] h k = absurd h
Exists-Each P Q f (x ∷ xs) h k = ⊎_elim (λ p. f x p k.0) (λ q. Exists-Each P Q f xs q k.1) h

-- what follows where one row is said two things of
pub OfRow-twice : {A C : Type 0} (P Q : A → Type 0) → ((r : A) → P r → Q r → C) → (o : Option A) → OfRow o P → OfRow o Q → C
unfolding OfRow
OfRow-twice P Q f None h k = absurd h
OfRow-twice P Q f (Some r) h k = f r h k

-- what follows where two claims are made by one test
pub Either-twice : {C : Type 0} (A B D E : Type 0) → (A → D → C) → (B → E → C) → (b : Bool) → Either b A B → Either b D E → C
unfolding Either
Either-twice A B D E f g true h k = f h k
Either-twice A B D E f g false h k = g h k

-- what all elements of a longer list have, those of its first part have
pub Each-left : {A : Type 0} (P : A → Type 0) (xs ys : List A) → Each P (xs ++ ys) → Each P xs
unfolding Each
Each-left P [] ys h = tt
Each-left P (x ∷ xs) ys h = (h.0, Each-left P xs ys h.1)

-- the same of the second part
pub Each-right : {A : Type 0} (P : A → Type 0) (xs ys : List A) → Each P (xs ++ ys) → Each P ys
unfolding Each
Each-right P [] ys h = h
Each-right P (x ∷ xs) ys h = Each-right P xs ys h.1
