-- A piece of a text, cut at the text's end.
use Rattle.std.proofs.Common.{◌≡◌, ℕ, ◌-◌, List, length, take, drop, ap, ◌∙◌, min}
use Rattle.std.proofs.lemmas.List.{take_min, drop_min}
use Rattle.mt_syntax.proofs.HiddenComments.{to_end}

pub rest_from : (xs : List ℕ) (a : ℕ) → take (length xs - min a (length xs)) (drop (min a (length xs)) xs) ≡ drop a xs
rest_from xs a = to_end xs (min a (length xs)) ∙ drop_min a xs

pub clipped : (xs rest : List ℕ) (a n : ℕ) → rest ≡ drop a xs → take (min n (length rest)) rest ≡ take n (drop a xs)
clipped xs rest a n e = take_min n rest ∙ ap (take n) e

pub clipped_at : (xs : List ℕ) (a m n k d : ℕ) → m ≡ min a (length xs) → d ≡ n → k ≡ min d (length (take (length xs - m) (drop m xs))) → take k (take (length xs - m) (drop m xs)) ≡ take n (drop a xs)
clipped_at xs a m n k d e f g =
    let rest = take (length xs - m) (drop m xs) in
    let r : rest ≡ drop a xs = ap (λ x. take (length xs - x) (drop x xs)) e ∙ rest_from xs a in
    ap (λ x. take x rest) (g ∙ ap (λ y. min y (length rest)) f) ∙ clipped xs rest a n r
