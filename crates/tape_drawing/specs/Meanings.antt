-- What stands below a frame: what it means, as its mark and in full.
use Rattle.std.specs.Prelude.{ℕ, List, Option, Some, None, codes}
use Rattle.code_table.specs.declared.meaning.Meaning.{Meaning}
use Rattle.code_table.specs.declared.meaning.Meaning.TheVariants as meanings
use Rattle.tape_drawing.specs.declared.elements.Style.{Style}
use Rattle.tape_drawing.specs.declared.elements.Style.TheVariants as styles

-- a meaning as a code table has it; a frame without one has a question mark
abbrev pub meaning_word : Option Meaning → List ℕ
meaning_word None = codes "?"
meaning_word (Some (meanings.Matrix name)) = name
meaning_word (Some meanings.Shift) = codes "@shift"
meaning_word (Some meanings.Unshift) = codes "@unshift"
meaning_word (Some meanings.Elevate) = codes "@elevate"
meaning_word (Some meanings.Return) = codes "@return"
meaning_word (Some meanings.Spaceband) = codes "@spaceband"
meaning_word (Some meanings.Thin) = codes "@thin"
meaning_word (Some meanings.En) = codes "@en"
meaning_word (Some meanings.Em) = codes "@em"
meaning_word (Some meanings.Upper) = codes "@upper"
meaning_word (Some meanings.Lower) = codes "@lower"
meaning_word (Some meanings.QuadLeft) = codes "@quadleft"
meaning_word (Some meanings.QuadCenter) = codes "@quadcenter"
meaning_word (Some meanings.QuadRight) = codes "@quadright"
meaning_word (Some meanings.Ignore) = codes "@ignore"

-- the mark of a meaning: the name of a matrix, two letters of a function
abbrev pub mark_word : Option Meaning → List ℕ
mark_word None = codes "?"
mark_word (Some (meanings.Matrix name)) = name
mark_word (Some meanings.Shift) = codes "SH"
mark_word (Some meanings.Unshift) = codes "UN"
mark_word (Some meanings.Elevate) = codes "EL"
mark_word (Some meanings.Return) = codes "RT"
mark_word (Some meanings.Spaceband) = codes "SB"
mark_word (Some meanings.Thin) = codes "TH"
mark_word (Some meanings.En) = codes "EN"
mark_word (Some meanings.Em) = codes "EM"
mark_word (Some meanings.Upper) = codes "UR"
mark_word (Some meanings.Lower) = codes "LR"
mark_word (Some meanings.QuadLeft) = codes "QL"
mark_word (Some meanings.QuadCenter) = codes "QC"
mark_word (Some meanings.QuadRight) = codes "QR"
mark_word (Some meanings.Ignore) = codes "IG"

-- how the mark looks
abbrev pub mark_style : Option Meaning → Style
mark_style None = styles.Unknown
mark_style (Some (meanings.Matrix name)) = styles.Letter
mark_style (Some _) = styles.Function
