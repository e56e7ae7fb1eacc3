-- Lists of three and of four entries: what they stand for.
use Rattle.std.proofs.Common.{◌≡◌, List, [], ◌∷◌, refl, sym, ap, ◌∙◌, subst}
use Rattle.std.proofs.lemmas.List.Elements.{All-cons, All-nil}
use Rattle.goal_terms.specs.Tree.{Tree}
use Rattle.goal_lists.specs.Entries.{Entry}
use Rattle.goal_lists.specs.InternedEntries.{entry_at, EntryIn, entries_at, EntriesIn}
use Rattle.goal_lists.specs.declared.lists.InternedEntry.{InternedEntry}

pub three-in : (T : List Tree) (es : List InternedEntry) (a b c : InternedEntry) → es ≡ a ∷ b ∷ c ∷ [] → EntryIn T a → EntryIn T b → EntryIn T c → EntriesIn T es
three-in T es a b c made h k l =
    subst (EntriesIn T) (sym made)
    (All-cons (EntryIn T) a (b ∷ c ∷ []) h (All-cons (EntryIn T) b (c ∷ []) k (All-cons (EntryIn T) c [] l (All-nil (EntryIn T)))))

pub four-in : (T : List Tree) (es : List InternedEntry) (a b c d : InternedEntry) → es ≡ a ∷ b ∷ c ∷ d ∷ [] →
    EntryIn T a → EntryIn T b → EntryIn T c → EntryIn T d → EntriesIn T es
four-in T es a b c d made h k l m =
    subst (EntriesIn T) (sym made)
    (All-cons (EntryIn T) a (b ∷ c ∷ d ∷ []) h
    (three-in T (b ∷ c ∷ d ∷ []) b c d refl k l m))

three-same : (x y z s t u : Entry) → s ≡ x → t ≡ y → u ≡ z → s ∷ t ∷ u ∷ [] ≡ x ∷ y ∷ z ∷ []
three-same x y z s t u e f g = cc (e, f, g)

pub three-at : (T : List Tree) (es : List InternedEntry) (a b c : InternedEntry) (x y z : Entry) → es ≡ a ∷ b ∷ c ∷ [] →
    entry_at T a ≡ x → entry_at T b ≡ y → entry_at T c ≡ z → entries_at T es ≡ x ∷ y ∷ z ∷ []
three-at T es a b c x y z made e f g = ap (entries_at T) made ∙ three-same x y z (entry_at T a) (entry_at T b) (entry_at T c) e f g

four-same : (w x y z s t u v : Entry) → s ≡ w → t ≡ x → u ≡ y → v ≡ z → s ∷ t ∷ u ∷ v ∷ [] ≡ w ∷ x ∷ y ∷ z ∷ []
four-same w x y z s t u v e f g h = cc (e, f, g, h)

pub four-at : (T : List Tree) (es : List InternedEntry) (a b c d : InternedEntry) (w x y z : Entry) → es ≡ a ∷ b ∷ c ∷ d ∷ [] →
    entry_at T a ≡ w → entry_at T b ≡ x → entry_at T c ≡ y → entry_at T d ≡ z → entries_at T es ≡ w ∷ x ∷ y ∷ z ∷ []
four-at T es a b c d w x y z made e f g h =
    ap (entries_at T) made ∙ four-same w x y z (entry_at T a) (entry_at T b) (entry_at T c) (entry_at T d) e f g h
