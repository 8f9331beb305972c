-- What clauses see of a cache and of a pass.
use Rattle.std.specs.Prelude.{◌≡◌, ◌<◌, ◌∷◌, [], ℕ, Bool, false, List, slice_index_or, Option, Some, None}
use Rattle.atomic_table.specs.Seated.{TableId}
use Rattle.cache_door.specs.declared.hold.Hold.{Hold}
use Rattle.cache_door.specs.declared.work.Work.{Work}
use Rattle.cache_table.specs.Abouts.{About}
use Rattle.cache_table.specs.declared.view.View.{View}
use Rattle.cache_table.specs.Calls.{view_of, marks}

-- which table, and what it was made with
pub record CacheView : Type 0 where
  pub id : TableId
  pub about : About

-- of which table, what it knows, and the counts of its work
pub record PassView : Type 0 where
  pub id : TableId
  pub view : View
  pub work : Work

-- the set of bits is that of the list
abbrev pub Tied : List Bool → List ℕ → Type 0
Tied bits l = (m : ℕ) → slice_index_or bits m false ≡ marks l m

abbrev pub IsNear : Option Hold → ℕ → Type 0
IsNear None n = Unit {0}
IsNear (Some h) n = h.region < n

-- what a pass keeps beside its badge
pub record Kept (views : List View) (shares : ℕ) (hold : Option Hold) (unmounted gone : List Bool) : Type 0 where
  pub seated : views ≡ view_of views ∷ []
  pub shared : shares ≡ (view_of views).shares
  pub held : hold ≡ (view_of views).hold
  pub near : IsNear hold (view_of views).about.config.regions
  pub unmounts : Tied unmounted (view_of views).unmounted
  pub goes : Tied gone (view_of views).gone
  pub at_rest : (view_of views).turns ≡ []

-- the pass is of this cache, and not spent
pub record IsOf (c : CacheView) (p : PassView) : Type 0 where
  pub id : p.id ≡ c.id
  pub about : p.view.about ≡ c.about
  pub alive : 0 < p.view.shares
