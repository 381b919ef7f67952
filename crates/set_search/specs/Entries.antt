-- Entries of a memory as the plain data of the definitions.
use Rattle.set_search.specs.declared.cache.Entry.{Entry}
use Rattle.work_share.specs.Outcomes.{plain_outcome}
use Rattle.set_search.specs.Memories.{PlainEntry}

abbrev pub plain_entry : Entry → PlainEntry
plain_entry e = record { boxes = e.boxes; budget = e.budget; outcome = plain_outcome e.kept }
