-- One word more is joined to those before it.
use Prim.Native.Nat.{ℕ, ◌<◌}
use mathlib.Core.Path.{◌≡◌, refl, ap, sym, ◌∙◌}
use mathlib.Core.List.{List, [], ◌∷◌, ◌++◌, append_assoc}
use native.Mathlib.Omega.{arith}
use lib.ListN.{length, drop, length-append}
use lib.Seq.{take_all}
use Rattle.texts.specs.Bytes.{joined}
use Rattle.texts.specs.Lent.{over, written}
use Rattle.texts.specs.declared.space.Space.{Space}
use Rattle.texts.proofs.Overs.{over_then, over_as, over_lent, same_name}
use Rattle.texts.proofs.Pieces.{start, holds_length}
use Rattle.frame.specs.Arguments.{next_word, Joined}

-- one or more words were joined over the lent bytes old; first is the space after the first of them
pub record Joining (old : List ℕ) (first new : Space) : Type 0 where
  pub start : Space
  pub lent : start.bytes.now ≡ old
  pub none : start.at ≡ 0
  pub named : start.bytes.ghost_name ≡ first.bytes.ghost_name
  pub words : List (List ℕ)
  pub some : 0 < length words
  pub held : new ≡ over (joined 32 words) start

pub one_word : (old w : List ℕ) (o first : Space) → o.bytes.now ≡ old → o.at ≡ 0 → first ≡ over w o → Joining old first first
unfolding joined
one_word old w o first b z e =
    record {
      start = o;
      lent = b;
      none = z;
      named = sym (same_name w o first e);
      words = w ∷ [];
      some = omega arith;
      held = e;
    }

joined_more : (p : List ℕ) (ws : List (List ℕ)) (w : List ℕ) → joined 32 (p ∷ (ws ++ (w ∷ []))) ≡ joined 32 (p ∷ ws) ++ (32 ∷ w)
unfolding joined
joined_more p [] w = refl
joined_more p (q ∷ ws) w = ap (λ (x : List ℕ). p ++ (32 ∷ x)) (joined_more q ws w) ∙ sym (append_assoc p (32 ∷ joined 32 (q ∷ ws)) (32 ∷ w))

joined_next : (ws : List (List ℕ)) (w : List ℕ) → 0 < length ws → joined 32 (ws ++ (w ∷ [])) ≡ joined 32 ws ++ next_word w
joined_next [] w h = absurd (omega arith)
joined_next (p ∷ ws) w h = joined_more p ws w

-- the space after join is the one before, with the next word
pub by_join : (w : List ℕ) (new mid last : Space) → mid ≡ over (32 ∷ []) new → last ≡ over w mid → last ≡ over (next_word w) new
by_join w new mid last m e = over_then (32 ∷ []) w new mid last m e

-- one word more
pub one_more : {old : List ℕ} {first new : Space} (w : List ℕ) (last : Space) → Joining old first new → last ≡ over (next_word w) new → Joining old first last
one_more {old} {first} {new} w last j e =
    let ws = j.words in
    record {
      start = j.start;
      lent = j.lent;
      none = j.none;
      named = j.named;
      words = ws ++ (w ∷ []);
      some = omega (arith, j.some, length-append ws (w ∷ []));
      held = over_as _ _ j.start last (sym (joined_next ws w j.some)) (over_then _ _ j.start new last j.held e);
    }

-- ---- the last word was joined
pub kept_name : {old : List ℕ} {first new : Space} → Joining old first new → new.bytes.ghost_name ≡ first.bytes.ghost_name
kept_name {old} {first} {new} j = same_name _ j.start new j.held ∙ j.named

pub all_given : {old : List ℕ} {first new : Space} → Joining old first new → (new.at ≡ length new.bytes.now → ⊥) → Joined old new.bytes.now new.at
unfolding written
all_given {old} {first} {new} j room =
    let t = joined 32 j.words in
    let h = (over_lent t old j.start new j.lent j.none j.held).held old [] (start old) in
    let free : new.at < length old = omega (arith, room, holds_length h, h.place) in
    let p : new.at ≡ length t = omega (arith, free, h.place) in
    record {
      words = j.words;
      some = j.some;
      place = p;
      free = free;
      bytes =
          h.bytes ∙ ap (λ (x : List ℕ). x ++ drop (length t) old) (take_all (length old) t (omega (arith, free, p)))
          ∙ ap (λ (k : ℕ). t ++ drop k old) (sym p);
    }
