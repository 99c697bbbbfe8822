-- Along written blocks every number of the leaf that a file is in is given: the lookup of the file is accepted, and an accepted lookup gives them.
use Prim.Native.Nat.{ℕ}
use mathlib.Core.List.{List}
use mathlib.Core.Path.{◌≡◌, refl}
use native.Mathlib.Omega.{arith}
use Rattle.itable.specs.Block.{to_root}
use Rattle.itable.specs.declared.Link.{Link}
use Rattle.itable.specs.Table.{blocks, written, root_hash}
use Rattle.itable.specs.Lookup.{Entry, found, absent, entry_of}
use Rattle.itable.specs.LookupMeaning.{in_leaf, not_in_leaf, none_leads, Says, ends, leads}
use Rattle.itable.specs.Answers.{path_of}
use Rattle.itable.specs.LeafGives.{Holds, WrittenLeafGives}
use Rattle.itable.proofs.EntryMeans.{entry_means}
use Rattle.itable.proofs.LookupMeans.{lookup_means}
use Rattle.itable.proofs.LeafGives.{leaf_gives}
use Rattle.itable.proofs.WrittenAnswers.{written_answers}

module _ (path : List ℕ) (i : ℕ) (handle : List ℕ) where
  apart : {A : Type 0} → absent ≡ found handle → A
  apart q = let z : ◌≡◌ {A = ℕ} 0 1 = cc in absurd (omega arith)

  held : (d : ℕ) (k : Link) (e : Entry) → e ≡ found handle → Says path i d k e → Holds path i handle
  held d k e q (ends w (in_leaf j leaf l same) last) =
      record { d = d; j = j; in_path = w.there; is_leaf = leaf; is_used = l; numbered = same; handled = cc q }
  held d k e q (ends w (not_in_leaf leaf f) last) = apart q
  held d k e q (ends w (none_leads inner f) last) = apart q
  held d k e q (leads j w l says) = held _ _ _ q says

pub written_leaf_gives : WrittenLeafGives
written_leaf_gives T t f l =
    let i : ℕ = T.number f in
    let root : List ℕ = root_hash (written T) (blocks T.count) in
    let a = written_answers T t i in
    let path : List ℕ = path_of (written T) a.indices in
    let q : entry_of T i ≡ found (T.value f) = ((entry_means T t i).present (T.value f)).1 (f, l, refl, refl) in
    let s = ((lookup_means root i path).0 (entry_of T i)).0 a.answers in
    record {
      indices = a.indices;
      are_written = a.are_written;
      holds = held path i (T.value f) 0 (to_root root) (entry_of T i) q s.1;
      gives_held = leaf_gives root i path (entry_of T i) a.answers;
    }
