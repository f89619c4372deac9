mod GatherLemmas
mod PrincipalLemmas
mod RealmLemmas
