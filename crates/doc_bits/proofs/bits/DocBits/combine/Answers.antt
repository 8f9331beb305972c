use Rattle.std.proofs.Common.{◌≡◌, ℕ, List, length, sym, ap, subst, ◌∙◌, arith}
use Rattle.std.specs.Vec.{with_items}
use Rattle.std.proofs.lemmas.List.{with_items_is}
use Rattle.doc_bits.specs.Words.{holds_at, IsLaidOut}
use Rattle.doc_bits.proofs.LayoutLemmas.{length-list_of}
use Rattle.doc_bits.proofs.Lists.{length-zip_with}
use Rattle.doc_bits.proofs.BitLemmas.{list_of_combined, laid_out_combined}
use Rattle.doc_bits.proofs.bits.DocBits.combine.Given.{Over}
use Rattle.doc_bits.proofs.bits.DocBits.combine.Goals as goal

pub combine_words-requires : goal.combine_words-requires
combine_words-requires g c =
    let held = ap length (sym c.self.view_is) ∙ length-list_of c.self.inside.len c.self.inside.words.items in
    let other_held = ap length (sym c.other.view_is) ∙ length-list_of c.other.inside.len c.other.inside.words.items in
    let words = ap length c.deref_mut.ensures.value ∙ c.self.invariant.as_many in
    let other_words = ap length c.deref.ensures.value ∙ c.other.invariant.as_many in
    omega arith

module _ (g : Over) (c : goal.After-self-1 g) where
  same_len : c.other.inside.len ≡ c.self.inside.len
  same_len =
      let held = ap length (sym c.self.view_is) ∙ length-list_of c.self.inside.len c.self.inside.words.items in
      let other_held = ap length (sym c.other.view_is) ∙ length-list_of c.other.inside.len c.other.inside.words.items in
      omega arith

  long : length c.combine_words.new.words ≡ length c.self.inside.words.items
  long = c.combine_words.auto.words ∙ ap length c.deref_mut.ensures.value

  items : (with_items c.self.inside.words c.combine_words.new.words).items ≡ c.combine_words.new.words
  items = with_items_is c.self.inside.words c.combine_words.new.words (long ∙ sym c.self.inside.words.ok.0)

  each : (i : ℕ) → holds_at c.combine_words.new.words i ≡ g.O.Operation.test (holds_at c.self.inside.words.items i) (holds_at c.other.inside.words.items i)
  each i = rw (← c.deref_mut.ensures.value, ← c.deref.ensures.value) (c.combine_words.ensures i)

pub invariant_of-self : goal.invariant_of-self
invariant_of-self g c =
    let P : List ℕ → Type 0 = IsLaidOut c.self.inside.len in
    subst P (sym (items g c))
    (laid_out_combined g.O.Operation.test g.met.O.Operation.none c.self.inside.len c.other.inside.len _ _ _ (same_len g c) (long g c) c.self.invariant c.other.invariant (each g c))

pub returns-clause-places : goal.returns-clause-places
returns-clause-places g c =
    rw (← c.self.view_is, ← c.other.view_is, items g c)
    (list_of_combined g.O.Operation.test c.self.inside.len c.other.inside.len _ _ _ (same_len g c) (each g c))

pub returns-clause-length : goal.returns-clause-length
returns-clause-length g c = ap length (returns-clause-places g c) ∙ length-zip_with g.O.Operation.test c.args.self.now c.args.other.now c.requires
