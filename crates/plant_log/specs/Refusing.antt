-- What is told of a file that is no offer.
use Rattle.std.specs.Prelude.{◌≡◌, ◌⊎◌, ℕ, List, Option, IfSome}
use Rattle.streams.specs.Fronts.{AppendsFront}
use Rattle.folders.specs.LogNames.{shown_name}
use Rattle.folders.specs.Offers.{IsNameOf}
use Rattle.folders.specs.declared.names.FileRequest.{FileRequest}
use Rattle.offers.specs.declared.stage.OfferFault.{OfferFault}
use Rattle.plant_log.specs.Words.{no_memory, reason_text, refused_text}
use Rattle.plant_log.specs.Telling.{WasTold}

-- the line with its name and the reason; of bytes that are no tape the words are left open
abbrev pub TellsReason : FileRequest → OfferFault → Option (List ℕ) → Option (List ℕ) → Type 0
TellsReason r reason old new =
    (name : List ℕ) × IsNameOf name r.number r.kind × (why : List ℕ) × IfSome (reason_text reason) (λ words. why ≡ words)
    × WasTold (refused_text (shown_name name) why) old new

-- that line, or that there was no memory for it
abbrev pub TellsNoOffer : FileRequest → OfferFault → Option (List ℕ) → Option (List ℕ) → Type 0
TellsNoOffer r reason old new = TellsReason r reason old new ⊎ AppendsFront old new no_memory
