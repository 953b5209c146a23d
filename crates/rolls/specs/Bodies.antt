-- What the code's bodies say.
use Rattle.rolls.specs.Rolls.{Body, CountsAsked, Counts, PageAsked, Page}
use Rattle.rolls.specs.declared.body.RollBody.{RollBody as HeldBody}
use Rattle.rolls.specs.declared.body.RollBody.TheVariants as held
use Rattle.rolls.specs.declared.body.RollKind.{RollKind}
use Rattle.rolls.specs.declared.body.RollKind.TheVariants as kinds

-- what a body says
abbrev pub said : HeldBody → Body
said held.CountsAsked = CountsAsked
said (held.Counts counts) = Counts counts
said (held.PageAsked page) = PageAsked page
said (held.Page votes) = Page votes.page votes.bytes

-- the kind of roll that says this
abbrev pub kind_of : Body → RollKind
kind_of CountsAsked = kinds.CountsAsked
kind_of (Counts counts) = kinds.Counts
kind_of (PageAsked page) = kinds.PageAsked
kind_of (Page page bytes) = kinds.Page
