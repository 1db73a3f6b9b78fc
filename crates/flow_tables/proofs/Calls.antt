-- What a call over a view says as one record, from what its parts say.
use Rattle.std.proofs.Common.{◌≡◌, Result, Ok, Err, refl, sym, subst}
use Rattle.std.specs.Prelude.{IfOk}
use Rattle.flow_model.specs.Book.{Book}
use Rattle.flow_view.specs.Reading.{Caused}
use Rattle.flow_view.specs.declared.fault.ViewFault.{ViewFault}
use Rattle.flow_view.specs.declared.fault.ViewFault.TheVariants as fault
use Rattle.flow_tables.specs.Calls.{Looked, Recalled, Views}
use Rattle.flow_tables.proofs.Serving.{goes_behind, read_behind, read_on}

---- Looks

-- nothing was looked at
pub no_look : {V A : Type 0} (g : Views V) (t : V) (v : A) → Looked g t t (Ok v)
no_look g t v = record {
  reads = λ sure. refl;
  cause = λ a before now sure. tt;
  goes_on = λ now sure. sure;
  sure = λ sure. sure;
  was_true = λ now. now;
  follows = λ a before. before;
}

-- A read is a look whose value is told too.
pub looked_by : {V A B : Type 0} (g : Views V) (old new : V) (v : A) (u : B) (value : Book → A) → Recalled g old new (Ok v) value → Looked g old new (Ok u)
looked_by g old new v u value read = record {
  reads = λ sure. (read.reads sure).0;
  cause = λ a before now sure. tt;
  goes_on = read.goes_on;
  sure = read.sure;
  was_true = read.was_true;
  follows = read.follows;
}

pub not_looked : {V A B : Type 0} (g : Views V) (old new : V) (f : ViewFault) (value : Book → A) → Recalled {A = A} g old new (Err f) value → Looked {A = B} g old new (Err f)
not_looked g old new f value read = record {
  reads = tt;
  cause = read.cause;
  goes_on = tt;
  sure = read.sure;
  was_true = read.was_true;
  follows = read.follows;
}

-- What was read is only known, and the view is as it was.
pub looked_so : {V A B : Type 0} (g : Views V) (old mid new : V) (v : A) (u : B) → new ≡ mid → Looked g old mid (Ok v) → Looked g old new (Ok u)
looked_so g old mid new v u same look = subst (λ t. Looked g old t (Ok u)) (sym same) (record {
  reads = look.reads;
  cause = λ a before now sure. tt;
  goes_on = look.goes_on;
  sure = look.sure;
  was_true = look.was_true;
  follows = look.follows;
})

pub looked_for : {V A B : Type 0} (g : Views V) (old new : V) (f : ViewFault) → Looked {A = A} g old new (Err f) → Looked {A = B} g old new (Err f)
looked_for g old new f look = record {
  reads = tt;
  cause = look.cause;
  goes_on = tt;
  sure = look.sure;
  was_true = look.was_true;
  follows = look.follows;
}

-- one behind another
pub looked_on : {V A B : Type 0} (g : Views V) (old mid new : V) (u : B) (result : Result A ViewFault) → Looked g old mid (Ok u) → Looked g mid new result → Looked g old new result
looked_on g old mid new u result one two = record {
  reads = read_on result (g.is_sure mid) (g.is_sure new) (g.book old) (g.book mid) (g.book new) one.reads two.sure two.reads;
  cause = λ a before now sure. two.cause a (one.follows a before) now (one.goes_on (two.was_true now) sure);
  goes_on = goes_behind result (g.is_true new) (g.is_sure old) (g.is_sure mid) (g.is_sure new) (λ now sure. one.goes_on (two.was_true now) sure) two.goes_on;
  sure = λ sure. one.sure (two.sure sure);
  was_true = λ now. one.was_true (two.was_true now);
  follows = λ a before. two.follows a (one.follows a before);
}

---- Reads

-- whose value is known behind a look
pub read_so : {V A B : Type 0} (g : Views V) (old new : V) (u : B) (v : A) (value : Book → A) → Looked g old new (Ok u) → (g.is_sure new → v ≡ value (g.book old)) → Recalled g old new (Ok v) value
read_so g old new u v value look is = record {
  reads = λ sure. (look.reads sure, is sure);
  cause = λ a before now sure. tt;
  goes_on = look.goes_on;
  sure = look.sure;
  was_true = look.was_true;
  follows = look.follows;
}

-- or before any
pub known_so : {V A : Type 0} (g : Views V) (t : V) (v : A) (value : Book → A) → (g.is_sure t → v ≡ value (g.book t)) → Recalled g t t (Ok v) value
known_so g t v value is = read_so g t t v v value (no_look g t v) is

-- that is asked behind a look
pub read_after : {V A B : Type 0} (g : Views V) (old mid new : V) (u : B) (result : Result A ViewFault) (value : Book → A) → Looked g old mid (Ok u) → Recalled g mid new result value → Recalled g old new result value
read_after g old mid new u result value look read = record {
  reads = read_behind result (g.is_sure mid) (g.is_sure new) (g.book old) (g.book mid) (g.book new) value look.reads read.sure read.reads;
  cause = λ a before now sure. read.cause a (look.follows a before) now (look.goes_on (read.was_true now) sure);
  goes_on = goes_behind result (g.is_true new) (g.is_sure old) (g.is_sure mid) (g.is_sure new) (λ now sure. look.goes_on (read.was_true now) sure) read.goes_on;
  sure = λ sure. look.sure (read.sure sure);
  was_true = λ now. look.was_true (read.was_true now);
  follows = λ a before. read.follows a (look.follows a before);
}

-- that nothing comes of, since something was refused before
pub not_asked : {V A : Type 0} (g : Views V) (t : V) (f : ViewFault) (value : Book → A) → (g.is_sure t → ⊥) → Recalled {A = A} g t t (Err f) value
not_asked g t f value barred = record {
  reads = tt;
  cause = λ a before now sure. absurd (barred sure);
  goes_on = tt;
  sure = λ sure. sure;
  was_true = λ now. now;
  follows = λ a before. before;
}

-- of whose value another one is made
pub read_as : {V A B : Type 0} (g : Views V) (old new : V) (v : A) (w : B) (value : Book → A) (other : Book → B) → Recalled g old new (Ok v) value → (g.is_sure old → v ≡ value (g.book old) → w ≡ other (g.book old)) → Recalled g old new (Ok w) other
read_as g old new v w value other read as_other = record {
  reads = λ sure. let is = read.reads sure in (is.0, as_other (read.sure sure) is.1);
  cause = λ a before now sure. tt;
  goes_on = read.goes_on;
  sure = read.sure;
  was_true = read.was_true;
  follows = read.follows;
}

pub refused_as : {V A B : Type 0} (g : Views V) (old new : V) (f : ViewFault) (value : Book → A) (other : Book → B) → Recalled {A = A} g old new (Err f) value → Recalled {A = B} g old new (Err f) other
refused_as g old new f value other read = record {
  reads = tt;
  cause = read.cause;
  goes_on = tt;
  sure = read.sure;
  was_true = read.was_true;
  follows = read.follows;
}

-- that is made of its value where there is memory
pub read_made : {V A B : Type 0} (g : Views V) (old new : V) (v : A) (result : Result B ViewFault) (value : Book → A) (other : Book → B) → Recalled g old new (Ok v) value → IfOk result (λ w. (b : Book) → v ≡ value b → w ≡ other b) → Caused result ⊥
    → Recalled g old new result other
read_made g old new v (Ok w) value other read made few = read_as g old new v w value other read (λ sure is. made (g.book old) is)
read_made g old new v (Err (fault.NoMemory _)) value other read made few = record {
  reads = tt;
  cause = λ a before now sure. tt;
  goes_on = tt;
  sure = read.sure;
  was_true = read.was_true;
  follows = read.follows;
}
read_made g old new v (Err fault.StoreRefused) value other read made few = absurd few

-- or since the look was refused
pub not_read : {V A B : Type 0} (g : Views V) (old new : V) (f : ViewFault) (value : Book → A) → Looked {A = B} g old new (Err f) → Recalled {A = A} g old new (Err f) value
not_read g old new f value look = record {
  reads = tt;
  cause = look.cause;
  goes_on = tt;
  sure = look.sure;
  was_true = look.was_true;
  follows = look.follows;
}

-- or for want of memory behind it
no_memory : (f : ViewFault) (X : Type 0) → f ≡ fault.NoMemory _ → Caused {A = Unit {0}} (Err f) X
no_memory (fault.NoMemory _) X is = tt
no_memory fault.StoreRefused X is = absurd (cc)

pub no_memory_read : {V A B : Type 0} (g : Views V) (old new : V) (u : B) (f : ViewFault) (value : Book → A) → f ≡ fault.NoMemory _ → Looked g old new (Ok u) → Recalled {A = A} g old new (Err f) value
no_memory_read g old new u f value is look = record {
  reads = tt;
  cause = λ a before now sure. no_memory f (g.refuses a new) is;
  goes_on = tt;
  sure = look.sure;
  was_true = look.was_true;
  follows = look.follows;
}
