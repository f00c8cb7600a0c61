use Rattle.cache_tables.proofs.tables.Tables.stow.Goals as goal

pub store-requires : goal.store-requires
store-requires c = c.requires.under c.in-Some.fill c.in-Some.is
