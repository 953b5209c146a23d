-- The lines of a list, written one after the other.
use Rattle.std.proofs.Common.{ℕ, ◌+◌, List, [], ◌++◌, Option, refl, ap}
use Rattle.std.specs.Io.KnownBytes.{Appends}
use Rattle.std.proofs.KnownBytes.{Appends-nil}
use Rattle.std.proofs.lemmas.List.{append-nil}
use Rattle.streams.specs.Fronts.{AppendsFront}
use Rattle.streams.proofs.Fronts.{front_more}

-- a front of a text is one of what it begins
pub begun : (old new : Option (List ℕ)) (text more : List ℕ) → AppendsFront old new text → AppendsFront old new (text ++ more)
begun old new text more q = front_more old old new [] text more (text ++ more) (Appends-nil old) q refl

-- a text was written, and then a front of the rest
pub behind : (old mid new : Option (List ℕ)) (text rest : List ℕ) → Appends old mid text → AppendsFront mid new rest → AppendsFront old new (text ++ rest)
behind old mid new text rest p q = front_more old mid new text rest [] (text ++ rest) p q (ap (λ (ys : List ℕ). text ++ ys) (append-nil rest))
