-- Lists that are filled out of others, with room that was reserved.
use Rattle.std.proofs.Common.{◌≡◌, ℕ, ◌+◌, ◌≤◌, List, ◌∷◌, length, ap, ◌∙◌, arith}

-- behind one more there is room for those that are left
pub room_more : {A : Type 0} (items left : List A) (x : A) (len len1 count count1 capacity capacity1 : ℕ) → items ≡ x ∷ left → len1 + 1 ≡ len → count1 ≡ count + 1 → capacity1 ≡ capacity
    → len ≡ length items → count + len ≤ capacity → (len1 ≡ length left) × (count1 + len1 ≤ capacity1)
room_more items left x len len1 count count1 capacity capacity1 next shorter long wide all room =
    let one : length items ≡ length left + 1 = ap length next ∙ omega arith in
    (omega (arith, shorter, one, all), omega (arith, shorter, room, long, wide))
