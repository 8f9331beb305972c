-- Hits as they are shown.
use Rattle.std.proofs.Common.{◌≡◌, ℕ, ◌+◌, ◌<◌, ◌∙◌, ap, ap₂, sym, subst, List, [], ◌∷◌, ◌++◌, length, take, map}
use Rattle.std.specs.Prelude.{All, Some, slice_get}
use Rattle.std.specs.Option.{option_map_or}
use Rattle.std.proofs.lemmas.Option.{get_or_from_slice_get, slice_get_within}
use Rattle.std.proofs.lemmas.List.{take_more, map-append}
use Rattle.std.proofs.lemmas.List.Elements.{All-get_or}
use Rattle.mount_manifest.specs.declared.record.Segment.{Segment}
use Rattle.shard_search.specs.Answers.{IsHitOf, pair_of}
use Rattle.shard_search.specs.declared.hits.Hit.{Hit}
use Rattle.shard_replies.specs.ExpectedReplies.{shown}

hit_of : (segments : List Segment) (hits : List Hit) (i : ℕ) (h : Hit) → All (IsHitOf segments) hits → slice_get hits i ≡ Some h → IsHitOf segments h
hit_of segments hits i h all is = subst (IsHitOf segments) (get_or_from_slice_get hits i h h is) (All-get_or (IsHitOf segments) hits i h (slice_get_within hits i h is) all)

-- a hit's segment is there
pub segment_there : (segments : List Segment) (hits : List Hit) (i : ℕ) (h : Hit) → All (IsHitOf segments) hits → slice_get hits i ≡ Some h → h.segment < length segments
segment_there segments hits i h all is = let own = hit_of segments hits i h all is in slice_get_within segments h.segment own.0 own.1

-- one hit more is shown
pub shown_next : (segments : List Segment) (hits : List Hit) (i : ℕ) (h : Hit) (s : Segment) (before after : List (List ℕ × ℕ)) (name : List ℕ)
    → slice_get hits i ≡ Some h → slice_get segments h.segment ≡ Some s → name ≡ s.name
    → before ≡ map (shown segments) (map pair_of (take i hits)) → after ≡ before ++ (name, h.doc) ∷ []
    → after ≡ map (shown segments) (map pair_of (take (i + 1) hits))
shown_next segments hits i h s before after name is there same sofar now =
    let own : (name, h.doc) ≡ shown segments (pair_of h) = ap (λ n. (n, h.doc)) (same ∙ sym (ap (λ o. option_map_or (λ (x : Segment). x.name) o []) there)) in
    let more : take (i + 1) hits ≡ take i hits ++ h ∷ [] = take_more hits i h (slice_get_within hits i h is) ∙ ap (λ x. take i hits ++ x ∷ []) (get_or_from_slice_get hits i h h is) in
    now
    ∙ ap₂ (λ xs x. xs ++ x ∷ []) sofar own
    ∙ sym (ap (λ xs. map (shown segments) (map pair_of xs)) more ∙ ap (map (shown segments)) (map-append pair_of (take i hits) (h ∷ [])) ∙ map-append (shown segments) (map pair_of (take i hits)) (pair_of h ∷ []))
