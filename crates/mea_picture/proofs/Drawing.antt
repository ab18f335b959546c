-- marks that are drawn one after another
use Rattle.std.proofs.Common.{◌≡◌, ℕ, ◌+◌, ◌<◌, ◌++◌, List, [], ◌∷◌, codes, length, take, get_or, ap, sym, ◌∙◌}
use Rattle.std.specs.List.{flat_map}
use Rattle.std.proofs.lemmas.List.{map-append, take_more, flat_map_more}
use Rattle.mea_marks.specs.declared.mark.Mark.{Mark}
use Rattle.mea_picture.specs.declared.shape.Shape.{Shape}
use Rattle.mea_picture.specs.Picture.{Drawn, group_text, head_text, IsDrawnTo, IsPictureOf}

-- one mark more
pub draws_more : (marks : List Mark) (i : ℕ) (m : Mark) (shapes : List Shape) (before text next : List ℕ) → i < length marks
    → IsDrawnTo (take i marks) before text → next ≡ text ++ group_text (record { mark = get_or marks i m; shapes = shapes })
    → IsDrawnTo (take (i + 1) marks) before next
draws_more marks i m shapes before text next less so is =
    let d : Drawn = record { mark = get_or marks i m; shapes = shapes } in
    record {
      drawn = so.drawn ++ d ∷ [];
      all = map-append (λ (e : Drawn). e.mark) so.drawn (d ∷ []) ∙ ap (λ ms. ms ++ get_or marks i m ∷ []) so.all ∙ sym (take_more marks i m less);
      whole = is ∙ ap (λ t. t ++ group_text d) so.whole ∙ flat_map_more group_text before so.drawn d;
    }

-- all of them, between a head and an end
pub is_picture : (shown marks : List Mark) (width height : ℕ) (empty head body text : List ℕ) → marks ≡ shown → empty ≡ [] → head ≡ empty ++ head_text width height
    → IsDrawnTo marks head body → text ≡ body ++ codes "</svg>\n" → IsPictureOf shown text
is_picture shown marks width height empty head body text same none headed so is = record {
  width = width;
  height = height;
  drawn = so.drawn;
  all = so.all ∙ same;
  whole = is ∙ ap (λ t. t ++ codes "</svg>\n") (so.whole ∙ ap (λ h. h ++ flat_map group_text so.drawn) (headed ∙ ap (λ e. e ++ head_text width height) none));
}
