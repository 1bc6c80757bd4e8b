-- How far the index has come: the entries of the recorded lines, and one more.
use Rattle.std.specs.Prelude.{◌≡◌, refl, List, [], ◌∷◌, ◌++◌, ℕ, ◌+◌, ◌≤◌, length}
use Rattle.std.proofs.Common.{sym, ap, ◌∙◌, append_assoc, append-nil, arith, length-append}
use Rattle.std.proofs.lemmas.List.Edits.{sets}
use Rattle.aut68.specs.Stores.{Stores}
use Rattle.aut68.specs.Lines.{Line, Lines}
use Rattle.aut68.specs.Paragraphs.{Place}
use Rattle.aut68.specs.Index.{entry_of, index_of}
use Rattle.aut68.specs.Procedure.CheckLine.{Passed}
use Rattle.aut68.specs.Procedure.Run.{Recorded, nothing, one_more, elsewhere, over}
use Rattle.records.specs.Tables.{over_more}

index_snoc : (ls : Lines) (l : Line) → index_of (ls ++ (l ∷ [])) ≡ index_of ls ++ entry_of l
unfolding index_of
index_snoc [] l = append-nil (entry_of l)
index_snoc (k ∷ ls) l = ap (λ (x : List ℕ). entry_of k ++ x) (index_snoc ls l) ∙ sym (append_assoc (entry_of k) (index_of ls) (entry_of l))

-- with the stores s lent, the entries of the lines of k are in the index, in its first `entries` cells
pub record Indexed (s : Stores) (k : Recorded) (entries : ℕ) (index : List ℕ) : Type 0 where
  pub entries_are : entries ≡ length (index_of k.recorded)
  pub index_room : entries ≤ length s.index
  pub index_is : index ≡ over (index_of k.recorded) s.index

pub indexed_nothing : (s : Stores) → Indexed s nothing 0 s.index
unfolding nothing over index_of
indexed_nothing s = record { entries_are = refl; index_room = omega arith; index_is = refl }

-- the same lines at another place
pub indexed_elsewhere : {s : Stores} {k : Recorded} {entries : ℕ} {index : List ℕ} → Indexed s k entries index → (place : Place) → Indexed s (elsewhere k place) entries index
unfolding elsewhere
indexed_elsewhere h place = record { entries_are = h.entries_are; index_room = h.index_room; index_is = h.index_is }

-- one line more
pub indexed_more : {s : Stores} {k : Recorded} {entries : ℕ} {index : List ℕ} → Indexed s k entries index → (at : ℕ) (p : Passed)
    → length (index_of k.recorded) + length (entry_of p.line) ≤ length s.index
    → Indexed s (one_more k at p) (entries + length (entry_of p.line)) (sets index entries (entry_of p.line))
unfolding one_more
indexed_more {s} {k} {entries} h at p fits =
    let e = h.entries_are in
    let m = entry_of p.line in
    record {
      entries_are = omega (arith, ap length (index_snoc k.recorded p.line), length-append (index_of k.recorded) m);
      index_room = omega arith;
      index_is =
          ap (λ (x : List ℕ). sets x entries m) h.index_is
          ∙ ap (λ (n : ℕ). sets (over (index_of k.recorded) s.index) n m) e
          ∙ over_more (index_of k.recorded) s.index m fits
          ∙ ap (λ (x : List ℕ). over x s.index) (sym (index_snoc k.recorded p.line));
    }
