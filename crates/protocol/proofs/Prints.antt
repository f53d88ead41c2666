-- A trail, printed frame by frame.
use Rattle.std.proofs.Common.{◌≡◌, ℕ, ◌+◌, ◌<◌, ◌≤◌, List, ◌∷◌, ◌++◌, map, length, get_or, take, sym, ap, ◌∙◌}
use Rattle.std.proofs.lemmas.List.{map_more, flat_map_more, take_all}
use Rattle.names.specs.Names.{Bytes}
use Rattle.faults.specs.Trails.{Steps, step, frame_text}
use Rattle.faults.specs.declared.frame.Frame.{Frame}
use Rattle.protocol.specs.Answers.{trail_text}

-- vs is printed already, and ws after one frame more
pub trail_more : (pre vs ws : Bytes) (i : ℕ) (fs : List Frame) (d : Frame) → i < length fs → vs ≡ pre ++ trail_text (map step (take i fs))
    → ws ≡ vs ++ 32 ∷ frame_text (step (get_or fs i d)) → ws ≡ pre ++ trail_text (map step (take (i + 1) fs))
trail_more pre vs ws i fs d h e f =
    f ∙ (ap (λ s. s ++ 32 ∷ frame_text (step (get_or fs i d))) e
    ∙ (flat_map_more (λ p. 32 ∷ frame_text p) pre (map step (take i fs)) (step (get_or fs i d))
    ∙ ap (λ s. pre ++ trail_text s) (sym (map_more step fs i d h))))

pub trail_all : (pre vs : Bytes) (fs : List Frame) (trail : Steps) (i : ℕ) → length fs ≤ i → vs ≡ pre ++ trail_text (map step (take i fs))
    → map step fs ≡ trail → vs ≡ pre ++ trail_text trail
trail_all pre vs fs trail i h e g = e ∙ ap (λ s. pre ++ trail_text s) (ap (map step) (take_all i fs h) ∙ g)
