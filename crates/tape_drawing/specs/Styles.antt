-- How words look: what begins their element.
use Rattle.std.specs.Prelude.{ℕ, List, codes}
use Rattle.tape_drawing.specs.declared.elements.Style.{Style}
use Rattle.tape_drawing.specs.declared.elements.Style.TheVariants as styles

-- the element of words of a style, as far as their place
abbrev pub style_lead : Style → List ℕ
style_lead styles.Letter = codes "<text x='"
style_lead styles.Function = codes "<text class='c' x='"
style_lead styles.Unknown = codes "<text class='x' x='"
style_lead styles.Position = codes "<text class='n' x='"
style_lead styles.Line = codes "<text class='l' x='"
style_lead styles.Faulty = codes "<text class='l x' x='"
style_lead styles.FirstFaulty = codes "<text id='fault' class='l x' x='"
style_lead styles.Kind = codes "<text class='g' x='"
style_lead styles.Note = codes "<text class='o' x='"
style_lead styles.Fault = codes "<text class='o x' x='"
style_lead styles.Behind = codes "<text class='e x' x='"
style_lead styles.Type = codes "<text class='t' x='"
style_lead styles.Upper = codes "<text class='t u' x='"
style_lead styles.Over = codes "<text class='t x' x='"
style_lead styles.UpperOver = codes "<text class='t u x' x='"
style_lead styles.Width = codes "<text class='w' x='"
style_lead styles.Heading = codes "<text class='h' x='"
style_lead styles.Head = codes "<text class='i' x='"
