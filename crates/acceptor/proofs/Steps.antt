-- One turn of the loop over the requests.
use Rattle.std.proofs.Common.{◌≡◌, ℕ, List, [], ◌∷◌, ◌++◌, ◌+◌, ◌<◌, length, get_or, take, drop, map, ap, sym, ◌∙◌, append_assoc}
use Rattle.std.proofs.lemmas.List.{take_more, drop_more, map-append}
use Rattle.protocol.specs.Rows.{Row}
use Rattle.protocol.specs.Acceptor.{Request as Asked, Reply as Answer, row_after, reply_of, next_row, reply_after, replies_after, StepsAreOfTheWhole}
use Rattle.acceptor.specs.declared.request.Request.{Request}
use Rattle.acceptor.specs.declared.request.Reply.{Reply}
use Rattle.acceptor.specs.Said.{asked, said}

pub goes_on : StepsAreOfTheWhole → (xs : List Request) (i : ℕ) (x : Request) (row next : Row) (replies : List Reply) (reply : Reply) (all : List Answer) → i < length xs → x ≡ get_or xs i x → row ≡ row_after (map asked (take i xs)) → next ≡ next_row row (asked x) → said reply ≡ reply_of row (asked x) → map said replies ++ replies_after (map asked (take i xs)) (map asked (drop i xs)) ≡ all → (next ≡ row_after (map asked (take (i + 1) xs))) × (map said (replies ++ reply ∷ []) ++ replies_after (map asked (take (i + 1) xs)) (map asked (drop (i + 1) xs)) ≡ all)
goes_on steps xs i x row next replies reply all lt is before stepped replied told =
    let t : map asked (take (i + 1) xs) ≡ map asked (take i xs) ++ asked x ∷ [] = ap (map asked) (take_more xs i x lt ∙ ap (λ (y : Request). take i xs ++ y ∷ []) (sym is)) ∙ map-append asked (take i xs) (x ∷ []) in
    let d : map asked (drop i xs) ≡ asked x ∷ map asked (drop (i + 1) xs) = ap (map asked) (drop_more xs i x lt ∙ ap (λ (y : Request). y ∷ drop (i + 1) xs) (sym is)) in
    let step = steps (map asked (take i xs)) (asked x) in
    let new_row : next ≡ row_after (map asked (take (i + 1) xs)) = stepped ∙ ap (λ (r : Row). next_row r (asked x)) before ∙ step.0 ∙ ap row_after (sym t) in
    let new_reply : said reply ≡ reply_after (map asked (take i xs)) (asked x) = replied ∙ ap (λ (r : Row). reply_of r (asked x)) before ∙ step.1 in
    let rest = replies_after (map asked (take (i + 1) xs)) (map asked (drop (i + 1) xs)) in
    let opened : replies_after (map asked (take i xs)) (map asked (drop i xs)) ≡ said reply ∷ rest =
    ap (λ (ys : List Asked). replies_after (map asked (take i xs)) ys) d ∙ ap (λ (bs : List Asked). reply_after (map asked (take i xs)) (asked x) ∷ replies_after bs (map asked (drop (i + 1) xs))) (sym t) ∙ ap (λ (r : Answer). r ∷ rest) (sym new_reply) in
    (new_row, ap (λ (rs : List Answer). rs ++ rest) (map-append said replies (reply ∷ [])) ∙ append_assoc (map said replies) (said reply ∷ []) rest ∙ ap (λ (ys : List Answer). map said replies ++ ys) (sym opened) ∙ told)
